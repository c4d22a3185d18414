-- `names::renaming` meets its contract. The loop's invariant: the map is that of the pairs that are read.
-- Assumes nothing.
use Rattle.names.proofs.Lists.{Directed}
use Rattle.names.proofs.renaming.Given as goal

abbrev pub invariant-loop-pair : goal.invariant-loop-pair
invariant-loop-pair l = Directed l.pairs l.pair-iterator.iter.rest.now l.to
