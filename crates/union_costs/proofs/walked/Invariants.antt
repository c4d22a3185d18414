-- `union_costs::walked` meets its contract: at most two labels are read for each that is drawn. Assumes nothing.
use Prim.Native.Nat.{◌≤◌, ◌+◌, ◌*◌}
use Rattle.union_costs.proofs.walked.Given as goal

abbrev pub invariant-loop-drawn : goal.invariant-loop-drawn
invariant-loop-drawn l = l.read ≤ 2 + 2 * l.drawn
