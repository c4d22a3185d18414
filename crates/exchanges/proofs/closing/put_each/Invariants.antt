-- `exchanges::closing::put_each` meets its contract. The loop's invariant: what the labels from the i-th on give is to come, and what
-- is kept is true of the set. Assumes nothing.
use mathlib.Core.Path.{◌≡◌}
use lib.ListN.{length}
use Rattle.areas.specs.Rows.{held}
use Rattle.exchanges.proofs.LabelByLabel.{Closing}
use Rattle.exchanges.proofs.closing.put_each.Given as goal

abbrev pub invariant-loop-i : goal.invariant-loop-i
invariant-loop-i l =
    Closing (held l.labels) (held l.operand) (held l.rules) (held l.initial.out) l.len l.end (held l.states) (held l.out) l.count l.i
    × (length l.states ≡ length l.initial.states) × (length l.out ≡ length l.initial.out)
