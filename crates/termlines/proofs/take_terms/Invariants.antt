-- `termlines::take_terms` meets its contract: the terms so far, in the table and in the lists, and the lines that are left.
-- Assumes nothing.
use Rattle.termlines.proofs.StoredTerms.{TermsSoFar}
use Rattle.termlines.proofs.take_terms.Given as goal

abbrev pub invariant-loop-n : goal.invariant-loop-n
invariant-loop-n l = TermsSoFar l.text l.line l.equations l.count l.initial.table l.initial.lists l.table l.lists l.from l.n
