-- `cutting::admitted` meets its contract: all pass, or what the list lets.
-- Assumes nothing.
use mathlib.Core.Path.{◌∙◌}
use Rattle.labels.specs.Packing.{code}
use Rattle.areas.specs.Rows.{held}
use Rattle.cutting.proofs.Cuts.{allows-all, allows-listed}
use Rattle.cutting.proofs.admitted.Goals as goal

pub returns-then-all : goal.returns-then-all
returns-then-all c =
    let a = c.args in
    c.if-all.true ∙ allows-all a.all (held a.list.now) (code a.label) c.if-all.true

pub returns-else-all : goal.returns-else-all
returns-else-all c =
    let a = c.args in
    c.allowed.ensures ∙ allows-listed a.all (held a.list.now) (code a.label) c.if-all.false
