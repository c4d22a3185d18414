-- `slots::packing::packed` meets its contract: both sides are one sum.
-- Assumes nothing.
use Rattle.slots.specs.Packing.{packed_term}
use mathlib.Core.Path.{refl}
use Rattle.slots.proofs.packing.packed.Goals as goal

pub returns : goal.returns
unfolding packed_term
returns c = refl
