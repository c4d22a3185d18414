-- `conversions::lay_words` meets its contract: the words are put one after the other, two for each number. Assumes nothing.
use Prim.Native.Nat.{◌*◌}
use lib.ListN.{length}
use Rattle.areas.proofs.Filling.{Filling}
use Rattle.conversions.specs.Conversions.{widened}
use Rattle.conversions.proofs.lay_words.Given as goal

abbrev pub invariant-loop-i : goal.invariant-loop-i
invariant-loop-i l = Filling (widened l.numbers) (2 * length l.numbers) l.initial.words l.words (2 * l.i)
