use mathlib.Core.Path.{refl, ◌∙◌}
use Rattle.union_costs.proofs.interleaved.Goals as goal

pub loop-i-init : goal.loop-i-init
loop-i-init c = refl

pub loop-i-preserved : goal.loop-i-preserved
loop-i-preserved c = c.write_label-in-loop-i.auto.words ∙ c.write_label.auto.words ∙ c.loop-i.invariant
