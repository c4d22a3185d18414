-- `operators::rules_for` meets its contract. Assumes nothing.
use mathlib.Core.Path.{◌≡◌, sym, ap, ap₂, ◌∙◌}
use mathlib.Core.Bool.{Bool}
use mathlib.Core.List.{List}
use Prim.Native.Nat.{ℕ, ◌*◌}
use native.Mathlib.Omega.{arith}
use lib.ListN.{length-take, take}
use Rattle.meaning.specs.Rounds.{pick}
use Rattle.areas.specs.Rows.{held}
use Rattle.areas.proofs.Held.{held-take}
use Rattle.ordering.specs.Ordering.{many_choices, ordered_rules, list_for}
use Rattle.operators.proofs.rules_for.Goals as goal

-- what is chosen, by the answer about the words that are used
chosen : (labels list : List ℕ) (end : ℕ) {asked answer : Bool} → asked ≡ many_choices labels (held (take (2 * end) list)) → asked ≡ answer
    → pick answer (ordered_rules (held (take (2 * end) list))) (held list) ≡ list_for labels end (held list)
chosen labels list end e f =
    ap₂ (λ (t : Bool) (l : List ℕ). pick t (ordered_rules l) (held list)) (sym f ∙ e ∙ ap (many_choices labels) (held-take end list)) (held-take end list)

pub slice_bounds-many_choices-end : goal.slice_bounds-many_choices-end
slice_bounds-many_choices-end c =
    let a = c.args in
    omega (arith, length-take (2 * a.end) a.list)

pub slice_bounds-in_order-end : goal.slice_bounds-in_order-end
slice_bounds-in_order-end c =
    let a = c.args in
    omega (arith, length-take (2 * a.end) a.list)

pub returns-then-many_choices : goal.returns-then-many_choices
returns-then-many_choices c =
    let a = c.args in
    c.in_order.ensures ∙ chosen (held a.labels.now) a.list a.end c.many_choices.ensures c.if-many_choices.true

pub returns : goal.returns
returns c =
    let a = c.args in
    chosen (held a.labels.now) a.list a.end c.many_choices.ensures c.if-many_choices.false
