-- `tally::verdicts::is_answer` meets its contract: labels first, then rounds.
-- Assumes nothing.
use borrow.Author.Tests.{le-leb, lt-leb}
use lib.Dec.{leb}
use Rattle.tally.proofs.Givens.{answer-too-many, answer-by-rounds, both-when, neither-when}
use Rattle.tally.proofs.verdicts.is_answer.Goals as goal

pub returns-then-verdict-gt-MOST_LABELS : goal.returns-then-verdict-gt-MOST_LABELS
returns-then-verdict-gt-MOST_LABELS c = answer-too-many c.args.verdict c.if-verdict-gt-MOST_LABELS.true

pub returns-then-verdict-ge1 : goal.returns-then-verdict-ge1
returns-then-verdict-ge1 c =
    let v = c.args.verdict in
    both-when (leb 1 v.rounds) (leb v.rounds 2049) (le-leb 1 v.rounds c.if-verdict-ge1.true) (answer-by-rounds v c.if-verdict-gt-MOST_LABELS.false)

pub returns-else-verdict-ge1 : goal.returns-else-verdict-ge1
returns-else-verdict-ge1 c =
    let v = c.args.verdict in
    neither-when (leb 1 v.rounds) (leb v.rounds 2049) (lt-leb 1 v.rounds c.if-verdict-ge1.false) (answer-by-rounds v c.if-verdict-gt-MOST_LABELS.false)
