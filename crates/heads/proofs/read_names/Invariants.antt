-- `heads::read_names` meets its contract: the names so far, and the lines that are left.
-- Assumes nothing.
use Rattle.heads.proofs.NameLines.{NamesSoFar}
use Rattle.heads.proofs.read_names.Given as goal

abbrev pub invariant-loop-i : goal.invariant-loop-i
invariant-loop-i l = NamesSoFar l.text l.named l.initial.table l.table l.from l.i
