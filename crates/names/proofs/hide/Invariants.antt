-- `names::hide` meets its contract. The loop's invariant: the word stands for the bag without the names before the i-th.
-- Assumes nothing.
use Rattle.labels.specs.Packing.{code}
use Rattle.names.proofs.Lists.{Hidden}
use Rattle.names.proofs.hide.Given as goal

abbrev pub invariant-loop-n : goal.invariant-loop-n
invariant-loop-n l = Hidden l.names (code l.initial.left) l.n-index l.left
