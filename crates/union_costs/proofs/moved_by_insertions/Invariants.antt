-- `union_costs::moved_by_insertions` meets its contract: no more labels move at an insertion than there are. Assumes nothing.
use Prim.Native.Nat.{◌≤◌, ◌*◌}
use Rattle.union_costs.proofs.moved_by_insertions.Given as goal

abbrev pub invariant-loop-len : goal.invariant-loop-len
invariant-loop-len l = l.moved ≤ 1024 * l.len
