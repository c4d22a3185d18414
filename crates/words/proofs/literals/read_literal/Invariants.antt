-- `words::literals::read_literal` meets its contract: what is left of the word against what is left of the line stays the answer.
-- Assumes nothing.
use lib.ListN.{drop}
use Rattle.words.proofs.Rests.{Spelling}
use Rattle.words.proofs.literals.read_literal.Given as goal

abbrev pub invariant-loop-next : goal.invariant-loop-next
invariant-loop-next l = Spelling l.due (drop l.next l.due) l.rest l.next
