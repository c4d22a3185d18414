-- `tally_files::verdicts::verdict` meets its contract: what is counted of the answer is counted of the call that it settles.
-- Assumes nothing.
use mathlib.Core.Path.{ap, ◌∙◌}
use Rattle.tally_verdicts.specs.Verdicts.{counted}
use Rattle.tally_files.proofs.verdicts.verdict.Goals as goal

pub returns : goal.returns
returns c = c.counted_of.ensures ∙ ap counted c.alphabet-said.ensures.verdict
