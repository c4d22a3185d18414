-- `names::rename_word` meets its contract. The loop's invariant is `Moved`: what the names below i weigh, and what is left.
-- Assumes nothing.
use lib.ListN.{get_or}
use Rattle.names.proofs.Lists.{Moved}
use Rattle.names.proofs.rename_word.Given as goal

abbrev pub invariant-loop-i : goal.invariant-loop-i
invariant-loop-i l = Moved (λ n. get_or l.to n 0) l.first l.word l.i l.rest l.made
