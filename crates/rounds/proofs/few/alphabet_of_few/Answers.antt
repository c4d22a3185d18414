-- `rounds::few::alphabet_of_few` meets its contract: the rounds in small areas, and the listing from where the root's set stands.
-- Assumes nothing.
use Rattle.sets.proofs.Steps.{handed_on}
use Rattle.rounds.proofs.Listings.{few-large, few-listed}
use Rattle.rounds.proofs.few.alphabet_of_few.Goals as goal

pub returns-then-answer-lt-FEW_WORDS : goal.returns-then-answer-lt-FEW_WORDS
returns-then-answer-lt-FEW_WORDS c = few-large

pub returns-in_err-rounds : goal.returns-in_err-rounds
returns-in_err-rounds c = rw (handed_on c.from_residual.result c.from_residual.ensures.0) few-large

pub returns : goal.returns
returns c =
    few-listed c.if-answer-lt-FEW_WORDS.false c.in_ok-rounds.ensures c.root_of.ensures
    (rw c.part_at.ensures at c.labels_of-set.ensures) c.cut_to-labels.ensures
