-- `labels::bags::sum` meets its contract. Assumes nothing.
use Rattle.std.proofs.Common.{◌+◌, arith, le-ltb, lt-ltb}
use Rattle.labels.specs.Packing.{code}
use Rattle.labels.specs.Bags.{sum_of}
use Rattle.labels.proofs.Sizes.{size_few}
use Rattle.labels.proofs.bags.sum.Goals as goal

pub overflow_add-size : goal.overflow_add-size
overflow_add-size c =
    let a = c.args in
    omega (arith, size_few (code a.a), size_few (code a.b))

pub returns-then-size-gt-MOST_ACTIONS : goal.returns-then-size-gt-MOST_ACTIONS
unfolding sum_of
returns-then-size-gt-MOST_ACTIONS c =
    let actions = c.size.result + c.size-2.result in
    rw (← c.size.ensures, ← c.size-2.ensures, lt-ltb 31 actions (omega (arith, c.if-size-gt-MOST_ACTIONS.true)))

pub returns-else-size-gt-MOST_ACTIONS : goal.returns-else-size-gt-MOST_ACTIONS
unfolding sum_of
returns-else-size-gt-MOST_ACTIONS c =
    let actions = c.size.result + c.size-2.result in
    let few = le-ltb 31 actions (omega (arith, c.if-size-gt-MOST_ACTIONS.false)) in
    rw (← c.size.ensures, ← c.size-2.ensures, few, ← c.joined.ensures)
