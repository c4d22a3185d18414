-- `advances::shape_in` meets its contract. Assumes nothing.
use mathlib.Core.Path.{ap, ◌∙◌}
use Rattle.shapes.specs.Shaping.{shape_for}
use Rattle.advances.proofs.shape_in.Goals as goal

pub returns : goal.returns
returns c = c.shape_of.ensures ∙ ap shape_for c.unpack.ensures
