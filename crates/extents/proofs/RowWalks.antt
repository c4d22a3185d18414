-- A walk over the labels of a row in other words than the set that is built of them, at the start of its own: label by label, each
-- goes through a step.
-- Assumes nothing.
use Rattle.std.specs.Prelude.{Result, Ok, Err}
use mathlib.Core.Path.{◌≡◌, ap, subst, ◌∙◌}
use mathlib.Core.List.{List, []}
use Prim.Native.Nat.{ℕ, ◌+◌, ◌≤◌, ◌<◌}
use native.Mathlib.Numerals.{add-one}
use native.Mathlib.Omega.{arith}
use lib.ListN.{length, get_or, drop, drop_of_length-le}
use lib.Seq.{drop-cons}
use Rattle.labels.specs.Packing.{code, packed}
use Rattle.labels.proofs.Codes.{code_of}
use Rattle.labels.specs.declared.Label.{Label}
use Rattle.parts.specs.declared.Target.{Target}
use Rattle.parts.specs.Parts.{set_at, most_labels, room_at, reach_of}
use Rattle.parts.proofs.LaidSets.{set_at-reach}
use Rattle.sets.specs.declared.TooLarge.{TooLarge}
use Rattle.sets.specs.Building.{Building, and_then, each, enter, GrownAt}
use Rattle.sets.proofs.Steps.{Steady, Going, going_start, going-length, going_end, going-as, going-holds, going-large}
use Rattle.extents.specs.Extents.{at_start}

-- a label that is put into a set at the start of words of its own
pub enter-start : {len : ℕ} (w : ℕ) {target : Target} {before after : List ℕ} {r : Result ℕ TooLarge} → target ≡ at_start len
    → GrownAt target (λ room. enter room w) before after r → GrownAt (at_start len) (λ room. enter room w) before after r
enter-start w {before = before} {after} {r} start g = subst (λ (t : Target). GrownAt t (λ room. enter room w) before after r) start g

-- What the labels from the i-th on give is to come. A step is what a label gives in the room; the set was said to have `len` labels.
module _ (step : ℕ → ℕ → List ℕ → Building) (labels : List ℕ) (len : ℕ) (before : List ℕ) (end : ℕ) where
  abbrev step_there : ℕ → List ℕ → Building
  step_there = step (room_at 0 most_labels (length before))

  pub record RowWalk (now : List ℕ) (count i : ℕ) : Type 0 where
    pub whole : end ≡ length labels
    pub going : Going 0 before now count (each step_there (drop i labels)) (each step_there labels (set_at 0 len before))

-- the set as far as it lies in the words
pub row-start : {step : ℕ → ℕ → List ℕ → Building} {labels : List ℕ} {len : ℕ} {before : List ℕ} {end start : ℕ}
    → start ≡ reach_of 0 len (length before) → end ≡ length labels
    → RowWalk step labels len before end before start 0
row-start {step} {labels} {len} {before} {start = start} e f =
    let all = each (step (room_at 0 most_labels (length before))) labels in
    let set : set_at 0 start before ≡ set_at 0 len before = ap (λ (n : ℕ). set_at 0 n before) e ∙ set_at-reach 0 len before in
    record { whole = f; going = rw set at (going_start 0 before start all (omega arith)) }

module _ {step : ℕ → ℕ → List ℕ → Building} {labels : List ℕ} {len : ℕ} {before : List ℕ} {end : ℕ} {now : List ℕ} {count i : ℕ}
    (x : RowWalk step labels len before end now count i) where
  abbrev step_here : ℕ → List ℕ → Building
  step_here = step (room_at 0 most_labels (length before))

  abbrev pub RowWalked : List ℕ → Result ℕ TooLarge → Type 0
  RowWalked after r = GrownAt (at_start len) (λ room. each (step room) labels) before after r

  pub row-length : (length now ≡ length before) × (count ≤ length now)
  row-length = let l = going-length x.going in (l.0, omega arith)

  pub row-end : end ≤ i → RowWalked now (Ok count)
  unfolding each
  row-end k =
      let none : drop i labels ≡ [] = drop_of_length-le labels {i = i} (omega (arith, x.whole)) in
      let q = going_end x.going (λ s. rw none) in
      record { answer = q.0; words = q.1 }

  -- a label is read and goes through a step that a function takes
  module _ (steady : (room w : ℕ) → Steady room (step room w)) (l : i < end) {label : Label} (read : label ≡ packed (get_or labels i 0))
      {after : List ℕ} {r : Result ℕ TooLarge} (g : GrownAt (at_start count) (λ room. step room (code label)) now after r) where
    abbrev rest : List ℕ → Building
    rest = each step_here (drop (i + 1) labels)

    row-going : Going 0 before now count (λ s. and_then (step_here (code label) s) rest) (each step_here labels (set_at 0 len before))
    unfolding each
    row-going =
        let word : code label ≡ get_or labels i 0 = code_of read in
        going-as _ x.going (λ s. rw (drop-cons labels i 0 (omega (arith, x.whole)), ← word, add-one i))

    pub row-holds : {n : ℕ} → r ≡ Ok n → RowWalk step labels len before end after n (i + 1)
    row-holds {n} f = record {
      whole = x.whole;
      going = going-holds most_labels (λ room. step room (code label)) rest (λ room. steady room (code label)) row-going g n f;
    }

    pub row-large : r ≡ Err (record {}) → RowWalked after (Err (record {}))
    row-large f =
        let q = going-large most_labels (λ room. step room (code label)) rest (λ room. steady room (code label)) row-going g f in
        record { answer = q.0; words = q.1 }
