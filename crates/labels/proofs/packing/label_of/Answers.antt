-- `labels::packing::label_of` meets its contract. Assumes nothing.
use Rattle.std.proofs.Common.{refl}
use Rattle.labels.specs.Packing.{packed}
use Rattle.labels.proofs.packing.label_of.Goals as goal

pub returns : goal.returns
unfolding packed
returns c = refl
