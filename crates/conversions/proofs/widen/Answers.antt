-- `conversions::widen` meets its contract. Assumes nothing.
use mathlib.Core.Path.{refl}
use Rattle.conversions.specs.Conversions.{widened}
use Rattle.conversions.proofs.widen.Goals as goal

pub returns : goal.returns
unfolding widened
returns c = refl
