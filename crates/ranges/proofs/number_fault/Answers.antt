-- `ranges::number_fault` meets its contract; written out so that a change is refused here and not at a caller.
-- Assumes nothing.
use Rattle.ranges.proofs.number_fault.Goals as goal

pub returns : goal.returns
returns c = c.found_unless.ensures
