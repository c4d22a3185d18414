-- `feet::read_bodies` meets its contract: the bodies so far, and the lines that are left.
-- Assumes nothing.
use Rattle.feet.proofs.BodyLines.{BodiesSoFar}
use Rattle.feet.proofs.read_bodies.Given as goal

abbrev pub invariant-loop-i : goal.invariant-loop-i
invariant-loop-i l = BodiesSoFar l.text l.line l.equations l.terms l.initial.table l.table l.from l.i
