-- `forms::kinds::try_kinds` meets its contract: one kind after the other, from the last to the first, the farthest place kept.
-- Assumes nothing.
use Rattle.forms.proofs.Kinded.{Sought}
use Rattle.forms.proofs.kinds.try_kinds.Given as goal

abbrev pub invariant-loop-k : goal.invariant-loop-k
invariant-loop-k l = Sought l.text l.at l.far l.k
