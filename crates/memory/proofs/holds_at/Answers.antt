-- `memory::holds_at` meets its contract, one test after the other.
-- Assumes nothing.
use mathlib.Core.Path.{◌≡◌, sym, ap, ◌∙◌}
use mathlib.Core.Bool.{true}
use Prim.Native.Nat.{◌+◌, ◌*◌, ◌%◌, ◌^◌, ◌<◌}
use borrow.Author.Tests.{not-true, not-false}
use lib.Dec.{eqb}
use lib.ListN.{length, get_or}
use Rattle.labels.specs.Packing.{code}
use Rattle.labels.proofs.Codes.{code_of}
use Rattle.areas.specs.Rows.{held}
use Rattle.rules.specs.Rules.{exchanges_before}
use Rattle.memory.specs.Memory.{covers_in, place_at}
use Rattle.memory.proofs.Holding.{too_short, another, fewer-rules, between-rules, decided}
use Rattle.memory.proofs.holds_at.Goals as goal
use Rattle.memory.proofs.holds_at.Goals.{After-label_is, After-number_of-place, Else-labels_in-at}

-- the entry's label is the state's; it stands in the memory; and how far its rules go
looked : (c : After-label_is) → let a = c.args in
    c.label_is.result ≡ eqb (get_or (held a.memory.now) (3 * a.entry) 0) (code a.state.sum)
looked c = c.label_is.ensures

stands : (c : Else-labels_in-at) → let a = c.args in 3 * a.entry + 2 < length (held a.memory.now)
stands c = rw c.labels_in.ensures at c.if-labels_in-at.false

placed : (c : After-number_of-place) → let a = c.args in
    c.number_of-place.result ≡ place_at (held a.memory.now) a.entry
placed c = c.number_of-place.ensures ∙ ap (λ x. x % 2 ^ 64) (code_of c.read_label.ensures)

same-label : (c : Else-labels_in-at) → let a = c.args in
    true ≡ eqb (get_or (held a.memory.now) (3 * a.entry) 0) (code a.state.sum)
same-label c =
    sym (not-false c.label_is.result c.if-not-label_is.false-raw) ∙ c.label_is.ensures

pub returns-then-not-label_is : goal.returns-then-not-label_is
returns-then-not-label_is c =
    let a = c.args in
    another (held a.memory.now) (held a.rules.now) a.entry a.before (code a.state.rest) (code a.state.sum)
    (sym (not-true c.label_is.result c.if-not-label_is.true-raw) ∙ looked (goal.at.returns-then-not-label_is c).After-label_is)

pub returns-then-labels_in-at : goal.returns-then-labels_in-at
returns-then-labels_in-at c =
    let a = c.args in
    too_short (held a.memory.now) (held a.rules.now) a.entry a.before (code a.state.rest) (code a.state.sum)
    (rw c.labels_in.ensures at c.if-labels_in-at.true)

pub returns-then-place-before : goal.returns-then-place-before
returns-then-place-before c =
    let a = c.args in
    fewer-rules (held a.memory.now) (held a.rules.now) a.entry a.before (code a.state.rest) (code a.state.sum)
    (stands (goal.at.returns-then-place-before c).Else-labels_in-at) (same-label (goal.at.returns-then-place-before c).Else-labels_in-at)
    (rw (placed (goal.at.returns-then-place-before c).After-number_of-place) at c.if-place-before.true)

pub returns-then-place-before-ne0 : goal.returns-then-place-before-ne0
returns-then-place-before-ne0 c =
    let a = c.args in
    between-rules (held a.memory.now) (held a.rules.now) a.entry a.before (code a.state.rest) (code a.state.sum)
    (stands (goal.at.returns-then-place-before-ne0 c).Else-labels_in-at) (same-label (goal.at.returns-then-place-before-ne0 c).Else-labels_in-at)
    (rw (placed (goal.at.returns-then-place-before-ne0 c).After-number_of-place) at c.if-place-before.false)
    (rw (placed (goal.at.returns-then-place-before-ne0 c).After-number_of-place) at c.if-place-before-ne0.true)

pub returns : goal.returns
returns c =
    let a = c.args in
    c.covers.ensures ∙ ap (covers_in (exchanges_before (held a.rules.now) a.before) (code a.state.rest)) (code_of c.read_label-2.ensures)
    ∙ decided (held a.memory.now) (held a.rules.now) a.entry a.before (code a.state.rest) (code a.state.sum)
    (stands (goal.at.returns c).Else-labels_in-at) (same-label (goal.at.returns c).Else-labels_in-at)
    (rw (placed (goal.at.returns c).After-number_of-place) at c.if-place-before.false)
    (rw (placed (goal.at.returns c).After-number_of-place) at c.if-place-before-ne0.false)
