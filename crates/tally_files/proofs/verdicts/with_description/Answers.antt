-- `tally_files::verdicts::with_description` meets its contract: what is added is what is counted of the description.
-- Assumes nothing.
use Rattle.tally_files.proofs.verdicts.with_description.Goals as goal

pub returns : goal.returns
returns c =
    rw c.verdict.ensures at c.added.ensures
