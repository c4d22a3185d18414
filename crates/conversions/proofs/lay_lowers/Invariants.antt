-- `conversions::lay_lowers` meets its contract: the lower words are put one after the other. Assumes nothing.
use Prim.Native.Nat.{◌/◌}
use lib.ListN.{length}
use Rattle.areas.proofs.Filling.{Filling}
use Rattle.conversions.specs.Conversions.{lowers}
use Rattle.conversions.proofs.lay_lowers.Given as goal

abbrev pub invariant-loop-i : goal.invariant-loop-i
invariant-loop-i l = Filling (lowers l.words) (length l.words / 2) l.initial.numbers l.numbers l.i
