-- A walk over a part that stands before the set that is built: label by label, each goes through a step.
-- Assumes nothing.
use Rattle.std.specs.Prelude.{Result, Ok, Err}
use mathlib.Core.Path.{◌≡◌, sym, ap, ap₂, ◌∙◌, ◌≡⟨◌⟩◌, ◌∎}
use mathlib.Core.List.{List, []}
use Prim.Native.Nat.{ℕ, ◌+◌, ◌-◌, ◌≤◌, ◌<◌, min}
use native.Mathlib.Numerals.{add-one}
use native.Mathlib.Omega.{arith}
use lib.ListN.{length, get_or, take, drop, length-take, drop_of_length-le}
use lib.Seq.{slice-cons}
use Rattle.labels.specs.Packing.{code, packed}
use Rattle.labels.proofs.Codes.{code_of}
use Rattle.sets.specs.declared.TooLarge.{TooLarge}
use Rattle.labels.specs.declared.Label.{Label}
use Rattle.parts.specs.declared.Part.{Part}
use Rattle.parts.specs.declared.Target.{Target}
use Rattle.parts.specs.Parts.{set_at, laid, part_before, words_of, room_at, reach_of}
use Rattle.sets.specs.Building.{Building, answer_of, and_then, each, Grown, GrownAt}
use Rattle.parts.proofs.LaidSets.{set_at-reach, get_d-laid, take-laid, part_end}
use Rattle.sets.proofs.Steps.{Steady, Going, going_start, going-length, going_end, going-as, going-holds, going-large, laid-set}

-- A part before a place does not change while the set is built.
pub part_stays : {at len : ℕ} {before now : List ℕ} {rest : List ℕ → Building} {goal : Building} (from to : ℕ)
    → Going at before now len rest goal → part_before at from to now ≡ part_before at from to before
part_stays {at} {before = before} from to x =
    ap (λ (l : List ℕ). drop from (take to l)) (ap (take at) x.held ∙ take-laid at x.set before x.fits)

-- The walk from one place up to another: what the labels from the i-th on give is to come. A step is what a label gives in the
-- room; the set had `start` labels.
module _ (step : ℕ → ℕ → List ℕ → Building) (at most : ℕ) (before : List ℕ) (start end from : ℕ) where
  abbrev walk : ℕ → List ℕ → Building
  walk i = each (step (room_at at most (length before))) (drop i (take end before))

  pub record Walk (now : List ℕ) (count i : ℕ) : Type 0 where
    pub within : (end ≤ at) × (end ≤ length before)
    pub going : Going at before now count (walk i) (walk from (set_at at start before))

pub walk_start : {step : ℕ → ℕ → List ℕ → Building} {at most : ℕ} {before : List ℕ} {start end from : ℕ}
    → (start ≤ length before - at) × (end ≤ at) × (end ≤ length before)
    → Walk step at most before start end from before start from
walk_start {step} {at} {most} {before} {start} {end} {from} h =
    record { within = (h.1, h.2); going = going_start at before start (walk step at most before start end from from) h.0 }

module _ {step : ℕ → ℕ → List ℕ → Building} {at most : ℕ} {before : List ℕ} {start end from : ℕ} {now : List ℕ} {count i : ℕ}
    (x : Walk step at most before start end from now count i) where
  abbrev step_here : ℕ → List ℕ → Building
  step_here = step (room_at at most (length before))

  abbrev pub Walked : List ℕ → Result ℕ TooLarge → Type 0
  Walked after r = Grown (each step_here (drop from (take end before))) at start before after r

  pub walk-length : (length now ≡ length before) × (count ≤ length now - at)
  walk-length = going-length x.going

  -- the parts before the set stay
  pub walk-words : (p : Part) → words_of at p now ≡ words_of at p before
  walk-words p = part_stays p.from p.to x.going

  pub walk_end : end ≤ i → Walked now (Ok count)
  unfolding each
  walk_end k =
      let b = x.within in
      let none : drop i (take end before) ≡ [] = drop_of_length-le (take end before) {i = i} (rw (length-take end before) (omega arith)) in
      let q = going_end x.going (λ s. rw none) in
      record { answer = q.0; words = q.1 }

  -- a label is read and goes through a step that a function takes
  module _ (steady : (room w : ℕ) → Steady room (step room w)) (l : i < end) {label : Label} (read : label ≡ packed (get_or now i 0))
      {after : List ℕ} {r : Result ℕ TooLarge} (g : Grown (step (room_at at most (length now)) (code label)) at count now after r) where
    abbrev rest : List ℕ → Building
    rest = each step_here (drop (i + 1) (take end before))

    read-before : code label ≡ get_or before i 0
    read-before =
        let b = x.within in
        code label
        ≡⟨ code_of read ⟩ get_or now i 0
        ≡⟨ ap (λ (ls : List ℕ). get_or ls i 0) x.going.held ⟩ get_or (laid at x.going.set before) i 0
        ≡⟨ get_d-laid at x.going.set before i (omega arith) (omega arith) ⟩ get_or before i 0 ∎

    walk-going : Going at before now count (λ s. and_then (step_here (code label) s) rest)
        (each step_here (drop from (take end before)) (set_at at start before))
    unfolding each
    walk-going = going-as _ x.going (λ s. rw (slice-cons i end before 0 l x.within.1, ← read-before, add-one i))

    pub walk-holds : {n : ℕ} → r ≡ Ok n → Walk step at most before start end from after n (i + 1)
    walk-holds {n} f = record {
      within = x.within;
      going = going-holds most (λ room. step room (code label)) rest (λ room. steady room (code label)) walk-going g n f;
    }

    pub walk-large : r ≡ Err (record {}) → Walked after (Err (record {}))
    walk-large f =
        let q = going-large most (λ room. step room (code label)) rest (λ room. steady room (code label)) walk-going g f in
        record { answer = q.0; words = q.1 }

-- The part that was to be walked over, as far as it lies before the set, and the set, as far as it lies in the list.
pub walked-part : (step : ℕ → ℕ → List ℕ → Building) (t : Target) (p : Part) {before after : List ℕ} {start end : ℕ} {r : Result ℕ TooLarge}
    → start ≡ reach_of t.at t.len (length before) → end ≡ min (min p.to t.at) (length before)
    → Grown (each (step (room_at t.at t.most (length before))) (drop p.from (take end before))) t.at start before after r
    → GrownAt t (λ room. each (step room) (words_of t.at p before)) before after r
walked-part step t p {before} {start = start} {end} e f g =
    let all = step (room_at t.at t.most (length before)) in
    let words : drop p.from (take end before) ≡ words_of t.at p before =
    ap (λ (n : ℕ). drop p.from (take n before)) f ∙ sym (part_end t.at p.from p.to before) in
    let set : set_at t.at start before ≡ set_at t.at t.len before = rw e (set_at-reach t.at t.len before) in
    let same = ap₂ (each all) words set in
    record { answer = g.answer ∙ ap answer_of same; words = g.words ∙ laid-set t.at before same }
