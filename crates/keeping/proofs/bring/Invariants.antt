-- `keeping::bring` meets its contract: the labels are put one after the other, and none is read after it was written.
-- Assumes nothing.
use Rattle.keeping.proofs.Bringing.{Bringing}
use Rattle.keeping.proofs.bring.Given as goal

abbrev pub invariant-loop-i : goal.invariant-loop-i
invariant-loop-i l = Bringing l.initial.work l.from l.count l.work l.i
