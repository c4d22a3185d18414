-- `rounds::alphabet` meets its contract: the rounds, the listing, and the work area set to 0.
-- Assumes nothing.
use native.Mathlib.Omega.{arith}
use Rattle.areas.proofs.Held.{length-held}
use Rattle.sets.proofs.Steps.{handed_on}
use Rattle.rounds.proofs.Listings.{answered-short, answered-large, answered-listed}
use Rattle.rounds.proofs.alphabet.Goals as goal

pub returns-then-answer-lt-ANSWER_WORDS : goal.returns-then-answer-lt-ANSWER_WORDS
returns-then-answer-lt-ANSWER_WORDS c = answered-short c.if-answer-lt-ANSWER_WORDS.true

pub returns-in_err-found : goal.returns-in_err-found
returns-in_err-found c =
    rw (handed_on c.from_residual.result c.from_residual.ensures.0) (answered-large c.if-answer-lt-ANSWER_WORDS.false c.in_err-found.ensures)

pub overflow_mul-used : goal.overflow_mul-used
overflow_mul-used c =
    let set = c.labels_of-set in
    omega (arith, c.labels_in-used.ensures, length-held set.result.now, set.type_inv.0)

pub returns : goal.returns
returns c =
    answered-listed c.if-answer-lt-ANSWER_WORDS.false c.in_ok-found.ensures c.labels_of-set.ensures
    c.labels_in-used.ensures c.cut_to-labels.ensures c.clear.ensures
