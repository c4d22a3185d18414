-- `rounds::own::alphabet_in_own` meets its contract: the rounds in areas that are enough, and the listing from where the root's set stands.
-- Assumes nothing.
use Rattle.sets.proofs.Steps.{handed_on}
use Rattle.rounds.proofs.Listings.{own-short, own-large, own-listed}
use Rattle.rounds.proofs.own.alphabet_in_own.Goals as goal

pub returns-then-answer-lt-ANSWER_WORDS : goal.returns-then-answer-lt-ANSWER_WORDS
returns-then-answer-lt-ANSWER_WORDS c = own-short c.if-answer-lt-ANSWER_WORDS.true

pub returns-in_err-rounds : goal.returns-in_err-rounds
returns-in_err-rounds c = rw (handed_on c.from_residual.result c.from_residual.ensures.0) (own-large c.in_err-rounds.ensures)

pub returns : goal.returns
returns c =
    own-listed c.run.new.out c.run.auto.out
    c.in_ok-rounds.ensures c.root_of.ensures
    (rw c.part_at.ensures at c.labels_of-set.ensures) c.cut_to-labels.ensures
