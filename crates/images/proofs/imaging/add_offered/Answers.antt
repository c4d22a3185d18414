use mathlib.Core.Path.{refl, ◌∙◌}
use Rattle.sets.proofs.Steps.{handed_on}
use Rattle.extents.proofs.RowWalks.{row-start, row-length, row-end, row-holds, row-large}
use Rattle.images.specs.Imaging.{taken_by}
use Rattle.images.proofs.Images.{steady-offered, taken_made, lower-small}
use Rattle.images.proofs.imaging.add_offered.Goals as goal

pub loop-i-init : goal.loop-i-init
loop-i-init c = (row-start c.reach-count.ensures c.labels_in-end.ensures, refl)

pub made-offer-requires : goal.made-offer-requires
made-offer-requires c = (c.requires, lower-small _ c.read_label-label.ensures)

pub take-requires : goal.take-requires
take-requires c = (row-length c.loop-i.invariant.0).1

pub returns-in_err-count : goal.returns-in_err-count
returns-in_err-count c =
    let a = c.args in
    let list = taken_by a.way a.list.now in
    rw (handed_on c.from_residual.result c.from_residual.ensures.0)
    (row-large c.loop-i.invariant.0 (λ room. steady-offered room a.way list) c.loop-i-test.true c.read_label-label.ensures
    (taken_made a.way list c.read_label-label.result c.made-offer.ensures c.in_err-count.ensures) refl)

pub loop-i-preserved : goal.loop-i-preserved
loop-i-preserved c =
    let a = c.args in
    let list = taken_by a.way a.list.now in (
      row-holds c.loop-i.invariant.0 (λ room. steady-offered room a.way list) c.loop-i-test.true c.read_label-label.ensures
          (taken_made a.way list c.read_label-label.result c.made-offer.ensures c.in_ok-count.ensures) refl,
      c.take.auto.out ∙ c.loop-i.invariant.1,
    )

pub returns : goal.returns
returns c = row-end c.loop-i.invariant.0 c.loop-i-test.false
