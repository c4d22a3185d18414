-- `lists::sides::read_rule` meets its contract: a label, and its right side.
-- Assumes nothing.
use Rattle.words.proofs.Steps.{stops, goes, handed_on, arrived, otherwise, become}
use Rattle.lists.proofs.Seen.{rule-seen}
use Rattle.lists.proofs.sides.read_rule.Goals as goal

pub returns-in_err-label : goal.returns-in_err-label
returns-in_err-label c = handed_on c.from_residual.ensures.1 (become (rule-seen _ _) (stops _ (stops _ c.in_err-label.ensures.stands)))

pub returns : goal.returns
returns c =
    let s = c.in_ok-label.ensures.stands in
    record {
      stands =
          become (rule-seen _ _)
          (goes _ (otherwise (goes _ s (arrived _ s.within)) c.two_or_more-left.ensures) c.with_right.ensures.stands);
    }
