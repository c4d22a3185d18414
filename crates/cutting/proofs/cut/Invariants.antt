-- `cutting::cut` meets its contract: the labels that the order allows are put one after the other.
-- Assumes nothing.
use Rattle.areas.specs.Rows.{held}
use Rattle.cutting.proofs.Cuts.{Cut}
use Rattle.cutting.proofs.cut.Given as goal

abbrev pub invariant-loop-i : goal.invariant-loop-i
invariant-loop-i l = Cut l.all (held l.list) (held l.set) l.initial.answer l.i l.n l.answer
