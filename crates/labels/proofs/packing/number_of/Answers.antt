-- `labels::packing::number_of` meets its contract. Assumes nothing.
use Rattle.std.proofs.Common.{arith}
use Rattle.labels.specs.Packing.{code}
use Rattle.labels.proofs.packing.number_of.Goals as goal

pub returns : goal.returns
unfolding code
returns c = omega arith
