-- The root's set cut to the order: by numbers as by labels.
-- Assumes nothing.
use mathlib.Core.Path.{◌≡◌, refl, ap}
use mathlib.Core.Logic.{inl, inr}
use mathlib.Core.Bool.{Bool, true, false}
use mathlib.Core.List.{List, [], ◌∷◌, ◌++◌, map}
use Prim.Native.Nat.{ℕ}
use Rattle.meaning.specs.Labels.{Label, number}
use Rattle.meaning.specs.Sets.{spread, kept}
use Rattle.meaning.specs.Descriptions.{Order, all, only}
use Rattle.meaning.specs.Legal.{LegalOrder}
use Rattle.meaning.specs.Answers.{admits, cut}
use Rattle.labels.proofs.Refinement.{Packs}
use Rattle.sets.proofs.Refinement.{AllPack}
use Rattle.images.proofs.Refinement.{listed-packs, allowed-number}
use Rattle.cutting.specs.Cutting.{allows, cut_labels}

-- whether an order is `all`, and the numbers of its labels
abbrev pub is_all : Order → Bool
is_all all = true
is_all (only ls) = false

abbrev pub list_of : Order → List ℕ
list_of all = []
list_of (only ls) = map number ls

allows-number : (n : ℕ) (o : Order) (a : Label) → LegalOrder n o → Packs n a → allows (is_all o) (list_of o) (number a) ≡ admits o a
unfolding allows
allows-number n all a h p = refl
allows-number n (only ls) a h p = allowed-number n ls (listed-packs n ls h.1) h.2 a p

pub cut-number : (n : ℕ) (o : Order) (s : List Label) → LegalOrder n o → AllPack n s → cut_labels (is_all o) (list_of o) (map number s) ≡ map number (cut o s)
unfolding cut_labels cut spread
cut-number n o [] h p = refl
cut-number n o (a ∷ s) h p = step (admits o a) (allows-number n o a h (p a (inl refl))) (cut-number n o s h (λ b m. p b (inr m)))
  where
    step : (b : Bool) → allows (is_all o) (list_of o) (number a) ≡ b → cut_labels (is_all o) (list_of o) (map number s) ≡ map number (cut o s)
        → cut_labels (is_all o) (list_of o) (number a ∷ map number s) ≡ map number (kept b a ++ cut o s)
    step true e ih = rw (e, cut_labels) (ap {B = List ℕ} (λ r. number a ∷ r) ih)
    step false e ih = rw (e, cut_labels) ih
