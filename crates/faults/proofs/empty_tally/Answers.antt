-- `faults::empty_tally` meets its contract.
-- Assumes nothing.
use Rattle.faults.proofs.empty_tally.Goals as goal

pub returns : goal.returns
returns c = rw c.tau.ensures
