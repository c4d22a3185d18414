-- `lists::sides::read_pair` meets its contract: a name, and its right side.
-- Assumes nothing.
use Rattle.words.proofs.Steps.{stops, goes, handed_on, become}
use Rattle.lists.proofs.Seen.{pair-seen}
use Rattle.lists.proofs.sides.read_pair.Goals as goal

pub returns-in_err-left : goal.returns-in_err-left
returns-in_err-left c = handed_on c.from_residual.ensures.1 (become (pair-seen _ _) (stops _ c.in_err-left.ensures.stands))

pub returns : goal.returns
returns c = record { stands = become (pair-seen _ _) (goes _ c.in_ok-left.ensures.stands c.with_right.ensures.stands) }
