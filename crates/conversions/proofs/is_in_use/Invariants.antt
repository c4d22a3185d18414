-- `conversions::is_in_use` meets its contract: what is left to look at decides. Assumes nothing.
use Rattle.conversions.proofs.Places.{Looked}
use Rattle.conversions.proofs.is_in_use.Given as goal

abbrev pub invariant-loop-i : goal.invariant-loop-i
invariant-loop-i l = Looked l.words l.i
