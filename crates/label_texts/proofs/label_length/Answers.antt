-- `label_texts::label_length` meets its contract: a label fits in the scratch area.
-- Assumes nothing.
use mathlib.Core.Path.{refl}
use Rattle.labels.specs.Packing.{code}
use Rattle.label_texts.proofs.Tau.{length_label}
use Rattle.label_texts.proofs.label_length.Goals as goal

pub slice_bounds-write_fitting_label-end : goal.slice_bounds-write_fitting_label-end
slice_bounds-write_fitting_label-end c = refl

pub write_fitting_label-requires : goal.write_fitting_label-requires
write_fitting_label-requires c = length_label c.args.names (code c.args.label)

pub returns : goal.returns
returns c = c.write_fitting_label.ensures.size
