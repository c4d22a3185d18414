-- `advances::keeping::keep_new` meets its contract. Assumes nothing.
use mathlib.Core.Path.{ap, ◌∙◌}
use Rattle.areas.specs.Rows.{held}
use Rattle.parts.specs.declared.Part.{Part}
use Rattle.sets.proofs.Steps.{handed_on}
use Rattle.extents.specs.Extents.{words_in}
use Rattle.advances.proofs.Keepings.{new-large, new-kept}
use Rattle.advances.proofs.keeping.keep_new.Goals as goal

pub returns-in_err-to : goal.returns-in_err-to
returns-in_err-to c =
    let a = c.args in
    rw (handed_on c.from_residual.result c.from_residual.ensures.0)
    (new-large (c.labels_of-known.ensures ∙ ap (λ (p : Part). words_in p (held a.work.now)) c.part_at.ensures) c.in_err-to.ensures)

pub returns : goal.returns
returns c =
    let a = c.args in
    new-kept (c.labels_of-known.ensures ∙ ap (λ (p : Part). words_in p (held a.work.now)) c.part_at.ensures)
    c.in_ok-to.ensures c.take_in.ensures
