-- `tally::verdicts::is_given` meets its contract: an answer or a refusal, by its number.
-- Assumes nothing.
use Rattle.tally.proofs.Givens.{given-answer, given-refusal}
use Rattle.tally.proofs.verdicts.is_given.Goals as goal

pub returns-then-verdict-eq-ANSWER : goal.returns-then-verdict-eq-ANSWER
returns-then-verdict-eq-ANSWER c = given-answer c.args.verdict c.if-verdict-eq-ANSWER.true c.is_answer.ensures

pub returns : goal.returns
returns c = given-refusal c.args.verdict c.if-verdict-eq-ANSWER.false c.is_refusal.ensures
