use native.Mathlib.Omega.{arith}
use Rattle.union_costs.proofs.walked.Goals as goal

pub loop-drawn-preserved : goal.loop-drawn-preserved
loop-drawn-preserved c = omega (arith, c.has_read.ensures, c.has_read-in-loop-drawn.ensures)
