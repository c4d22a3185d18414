-- The outcome under an order is the outcome under `all`, its labels cut to the order.
-- Assumes nothing.
use mathlib.Core.Path.{◌≡◌, refl, sym, ap, subst}
use mathlib.Core.Bool.{Bool, true, false}
use mathlib.Core.List.{List}
use Prim.Native.Nat.{ℕ, zero, suc}
use lib.Dec.{T}
use Rattle.meaning.specs.Labels.{Label}
use Rattle.meaning.specs.Sets.{at}
use Rattle.meaning.specs.Descriptions as D
use Rattle.meaning.specs.Rounds.{body_sets, round_sets}
use Rattle.meaning.specs.Limits.{over}
use Rattle.meaning.specs.Answers.{Outcome, too_large, listed, cut, same_sets, answer_from, answer}
use Rattle.stability.proofs.Rounding.{cut_all}

-- the labels under `all` are the root's set in the round that is counted, which passes no limit
abbrev pub Cuts : D.Description → D.Order → (whole cut_to : Outcome) → Type 0
Cuts d o too_large z = z ≡ too_large
Cuts d o (listed k labels) z =
    (z ≡ listed k (cut o labels)) × (labels ≡ at (round_sets d k) d.root) × (T (over (round_sets d k)) → ⊥)

module _ (d : D.Description) (o : D.Order) where
  -- the root's set in the next round, and what is answered there
  abbrev root : ℕ → List Label
  root k = at (round_sets d (suc k)) d.root

  abbrev answered : D.Order → (more k : ℕ) → (large stable : Bool) → Outcome
  answered p more k large stable = elim large [
    | true ↦ too_large
    | false ↦ elim stable [ true ↦ listed (suc k) (cut p (root k)) | false ↦ answer_from more d p (suc k) (round_sets d (suc k)) ]
  ]

  cuts-from : (more k : ℕ) → Cuts d o (answer_from more d D.all k (round_sets d k)) (answer_from more d o k (round_sets d k))
  unfolding answer_from round_sets
  cuts-from zero k = refl
  cuts-from (suc more) k =
      by (over (round_sets d (suc k))) refl (same_sets (body_sets d (round_sets d (suc k))) (body_sets d (round_sets d k))) (cuts-from more (suc k))
    where
      by : (b : Bool) → over (round_sets d (suc k)) ≡ b → (c : Bool)
          → Cuts d o (answer_from more d D.all (suc k) (round_sets d (suc k))) (answer_from more d o (suc k) (round_sets d (suc k)))
          → Cuts d o (answered D.all more k b c) (answered o more k b c)
      by true e c ih = refl
      by false e true ih =
          (ap (λ (s : List Label). listed (suc k) (cut o s)) (sym (cut_all (root k))), cut_all (root k), λ t. subst (λ (b : Bool). T b) e t)
      by false e false ih = ih

  pub cuts-to : Cuts d o (answer d D.all) (answer d o)
  unfolding answer
  cuts-to = cuts-from 2049 0
