-- The laws of the set rules: the sets and lists that they speak of (docs/LAWS.md).
-- Assumes nothing.
use Rattle.std.specs.Prelude.{◌≡◌, ◌↔◌, ◌⊎◌, List, ◌++◌, ℕ}
use Rattle.meaning.specs.Labels.{Label, empty, plus}
use Rattle.meaning.specs.Sets.{◌∈◌, ascending, spread, product}
use Rattle.meaning.specs.Descriptions.{Pair, Operator, block, hide, rename, allow}
use Rattle.meaning.specs.Rounds.{image}

-- The set rules, of sets: what a map of labels makes of a set, an operator over a set, two sets of which either steps, two
-- that are merged, two that are synchronised.
abbrev pub under : (Label → List Label) → List Label → List Label
under f s = ascending (spread f s)

abbrev pub wrapped : ℕ → Operator → List Label → List Label
wrapped names o s = under (image names o) s

abbrev pub chosen : List Label → List Label → List Label
chosen s t = ascending (s ++ t)

abbrev pub merged : List Label → List Label → List Label
merged s t = ascending (s ++ t ++ product s t)

abbrev pub synced : List Label → List Label → List Label
synced s t = ascending (product s t)

-- The third list has the names of either of two lists; the labels of both.
abbrev pub Union : List ℕ → List ℕ → List ℕ → Type 0
Union ns ms ks = (n : ℕ) → (n ∈ ks) ↔ ((n ∈ ns) ⊎ (n ∈ ms))

abbrev pub Common : List Label → List Label → List Label → Type 0
Common ls ms ks = (a : Label) → (a ∈ ks) ↔ ((a ∈ ls) × (a ∈ ms))

-- An operator over another that are one: the first over the second is the third.
pub data InOne : Operator → Operator → Operator → Type 0 where
  both-hide : {ns ms ks : List ℕ} → Union ns ms ks → InOne (hide ns) (hide ms) (hide ks)
  both-block : {ns ms ks : List ℕ} → Union ns ms ks → InOne (block ns) (block ms) (block ks)
  both-allow : {ls ms ks : List Label} → Common ls ms ks → InOne (allow ls) (allow ms) (allow ks)

-- A map of labels that keeps the empty label and sums.
pub record Keeps (names : ℕ) (f : Label → Label) : Type 0 where
  pub none : f (empty names) ≡ empty names
  pub sums : (a b : Label) → f (plus a b) ≡ plus (f a) (f b)

-- Operators that look at the actions of a label one by one. (comm and allow look at the label as a whole.)
pub data ActionByAction : Operator → Type 0 where
  blocks : (ns : List ℕ) → ActionByAction (block ns)
  hides : (ns : List ℕ) → ActionByAction (hide ns)
  renames : (ps : List Pair) → ActionByAction (rename ps)
