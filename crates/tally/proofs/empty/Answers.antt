-- `tally::empty` meets its contract: of no verdict every figure is 0.
-- Assumes nothing.
use mathlib.Core.Path.{refl}
use Rattle.tally.specs.Figures.{saying, all_labels, most_rounds}
use Rattle.tally.proofs.empty.Goals as goal

pub returns : goal.returns
unfolding saying all_labels most_rounds
returns c = refl
