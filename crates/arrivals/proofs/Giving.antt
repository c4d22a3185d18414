-- What new labels give, on the numbers of labels: the set of what the labels themselves give, or that passes a limit.
-- Assumes nothing.
use mathlib.Core.Path.{◌≡◌, refl, sym, ap, subst, ◌∙◌}
use mathlib.Core.Logic.{inl, inr}
use mathlib.Core.Bool.{Bool, true, false}
use mathlib.Core.List.{List, [], ◌∷◌, ◌++◌, map, append-nil, append_assoc}
use Prim.Native.Nat.{ℕ, ◌≤◌, ◌<◌}
use native.Mathlib.Omega.{arith}
use lib.Dec.{eqb}
use lib.ListN.{length, length-map}
use Rattle.meaning.specs.Labels.{Label, number}
use Rattle.meaning.specs.Sets.{ascending, spread, product}
use Rattle.meaning.specs.Descriptions.{Operator, block, hide, rename, allow, Pair}
use Rattle.meaning.specs.Legal.{Each, LegalPair, LegalOperator}
use Rattle.meaning.specs.Rounds.{image}
use Rattle.meaning.proofs.Ascent.{Within}
use Rattle.meaning.proofs.Members.{in-append}
use Rattle.labels.proofs.Refinement.{Packs}
use Rattle.sets.specs.Building.{Building, done, goes_on, and_then, enter}
use Rattle.sets.proofs.Refinement.{AllPack, too-much-more, outcome-same, enter-outcome}
use Rattle.sets.proofs.Outcomes.{Offered, Anything, Result}
use Rattle.images.specs.Imaging.{follows_rules, offer_of}
use Rattle.images.proofs.Refinement.{listed-packs, way-outcome, block-offers, hide-offers, rename-offers, allow-offers}
use Rattle.operators.specs.Operators.{passed}
use Rattle.operators.proofs.OperatorLists.{way_of, way_words}
use Rattle.sums.specs.Sums.{sums_of}
use Rattle.sums.proofs.SumLaws.{sums-outcome}
use Rattle.merging.proofs.UnionLaws.{union-result}
use Rattle.arrivals.specs.Arriving.{unless_all, sums_new, union_new, two_new}
use Rattle.arrivals.proofs.NewSums.{next-done}

-- The sums that are given: where as many labels of the first list are new as it has, those with its labels alone.
abbrev pub sums_given : (all : Bool) (newA a new_b b : List Label) → List Label
sums_given true newA a new_b b = product newA b
sums_given false newA a new_b b = product new_b a ++ product newA b

pub turned : (l m : List Label) → Within (l ++ m) (m ++ l)
turned l m a k = elim ((in-append a l m).0 k) [ inl i ↦ (in-append a m l).1 (inr i) | inr i ↦ (in-append a m l).1 (inl i) ]

behind : (l m : List Label) → Within m (l ++ m)
behind l m a k = (in-append a l m).1 (inr k)

module _ (names room : ℕ) where
  nothing-packs : AllPack names []
  nothing-packs a m = absurd m

  alone : (M : List Label) {b : Building} → Result names room (M ++ []) b → Result names room M b
  alone M {b} x = subst (λ (l : List Label). Result names room l b) (append-nil M) x

  -- one step after another, where the first gives labels of the whole alone
  result-next : (M N : List Label) (b : Building) (f : List ℕ → Building) → Within M N → Result names room M b
      → (AllPack names M → Result names room N (f (map number (ascending M)))) → Result names room N (and_then b f)
  result-next M N b f w (inl x) more = subst (λ (c : Building). Result names room N (and_then c f)) (sym x.built) (more x.packs)
  result-next M N b f w (inr x) more = inr (ap (λ (t : Bool). (goes_on t b f).whole) x.0 ∙ x.0, too-much-more room M N w x.1)

  -- No label, one label, and labels as they are.
  pub none-given : Result names room [] (done [])
  unfolding ascending
  none-given = inl (record { built = refl; packs = nothing-packs; kept = tt })

  pub leaf-given : (a : Label) → Packs names a → Result names room (a ∷ []) (enter room (number a) [])
  unfolding ascending
  leaf-given a p = enter-outcome names room Anything (λ M N w v i. tt) a [] p nothing-packs tt

  pub copy-given : (A : List Label) → AllPack names A → ascending A ≡ A → Result names room A (union_new room (map number A) [] [])
  unfolding ascending
  copy-given A p up = alone A (union-result names A [] p nothing-packs up refl room)

  -- The new labels of two lists, and every sum of which one is new.
  module _ (few : names ≤ 24) (F A G B : List Label) (p : AllPack names F) (p' : AllPack names A) (q : AllPack names G) (q' : AllPack names B) where
    abbrev numbers : List Label → List ℕ
    numbers l = map number l

    sums_by : (all : Bool) (M : List Label) → AllPack names M
        → Result names room (sums_given all F A G B ++ M)
        (and_then (sums_of room (numbers F) (numbers B) (numbers (ascending M))) (unless_all all (sums_of room (numbers G) (numbers A))))
    sums_by true M r =
        subst (Result names room (product F B ++ M)) (next-done (sums_of room (numbers F) (numbers B) (numbers (ascending M))))
        (sums-outcome names room few F B M p q' r)
    sums_by false M r =
        let first = sums_of room (numbers F) (numbers B) (numbers (ascending M)) in
        let second = sums_of room (numbers G) (numbers A) in
        subst (λ (l : List Label). Result names room l (and_then first second)) (sym (append_assoc (product G A) (product F B) M))
        (result-next (product F B ++ M) (product G A ++ (product F B ++ M)) first second (behind (product G A) (product F B ++ M))
        (sums-outcome names room few F B M p q' r) (λ s. sums-outcome names room few G A (product F B ++ M) q p' s))

    abbrev pub sums : List Label
    sums = sums_given (eqb (length F) (length A)) F A G B

    beside-given : (M : List Label) → AllPack names M
        → Result names room (sums ++ M) (sums_new room (numbers F) (numbers A) (numbers G) (numbers B) (numbers (ascending M)))
    beside-given M r = rw (length-map F number, length-map A number) (sums_by (eqb (length F) (length A)) M r)

    pub joint-given : Result names room sums (sums_new room (numbers F) (numbers A) (numbers G) (numbers B) [])
    unfolding ascending
    joint-given = alone sums (beside-given [] nothing-packs)

    module _ (up : ascending F ≡ F) (also : ascending G ≡ G) where
      pub either-given : Result names room (F ++ G) (two_new false room (numbers F) (numbers A) (numbers G) (numbers B) [])
      either-given = union-result names F G p q up also room

      pub both-given : Result names room (F ++ G ++ sums) (two_new true room (numbers F) (numbers A) (numbers G) (numbers B) [])
      both-given =
          let more = sums_new room (numbers F) (numbers A) (numbers G) (numbers B) in
          outcome-same names room Anything (λ K L w v i. tt) (sums ++ (F ++ G)) (F ++ G ++ sums) _ (turned sums (F ++ G)) (turned (F ++ G) sums)
          (result-next (F ++ G) (sums ++ (F ++ G)) (union_new room (numbers F) (numbers G) []) more (behind sums (F ++ G)) either-given
          (λ r. beside-given (F ++ G) r))

  -- An operator that makes of each label by itself what the set is to have of it.
  module _ (few : names ≤ 24) (l N : List Label) (p : AllPack names l) where
    abbrev pub Through : Operator → Type 0
    Through o = Result names room (spread (image names o) l) (passed room (way_of o) (way_words (map number l) names o) (map number l) (map number N) [])

    by-labels : (o : Operator) → follows_rules (way_of o) ≡ false
        → ((a : Label) → Packs names a → Offered names (offer_of (way_of o) (way_words (map number l) names o) (number a)) (image names o a)) → Through o
    unfolding ascending
    by-labels o plain offers =
        alone (spread (image names o) l)
        (way-outcome names room (way_of o) (way_words (map number l) names o) (map number N) (image names o) plain offers l [] p nothing-packs)

    small-left : (ps : List Pair) → Each (LegalPair names) ps → Each (λ x. x.left < 32) ps
    small-left [] h = tt
    small-left (x ∷ ps) h = (let i = h.0.0 in omega arith, small-left ps h.1)

    pub block-given : (ns : List ℕ) → Through (block ns)
    block-given ns = by-labels (block ns) refl (λ a r. block-offers names few ns a r)

    pub hide-given : (ns : List ℕ) → Through (hide ns)
    hide-given ns = by-labels (hide ns) refl (λ a r. hide-offers names few ns a r)

    pub rename-given : (ps : List Pair) → LegalOperator names (rename ps) → Through (rename ps)
    rename-given ps h = by-labels (rename ps) refl (λ a r. rename-offers names few ps h.1 (small-left ps h.1) a r)

    pub allow-given : (ls : List Label) → LegalOperator names (allow ls) → Through (allow ls)
    allow-given ls h = by-labels (allow ls) refl (λ a r. allow-offers names ls (listed-packs names ls h.1) h.2 a r)
