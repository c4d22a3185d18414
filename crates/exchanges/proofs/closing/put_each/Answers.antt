use mathlib.Core.Path.{refl, ◌∙◌}
use Rattle.areas.proofs.Held.{held-long}
use Rattle.sets.proofs.Steps.{handed_on}
use Rattle.extents.proofs.RowWalks.{row-end}
use Rattle.exchanges.proofs.LabelByLabel.{closing-start, closing-holds, closing-large}
use Rattle.exchanges.proofs.closing.put_each.Goals as goal

pub loop-i-init : goal.loop-i-init
loop-i-init c = (closing-start c.requires c.labels_in-end.ensures, refl, refl)

pub put-requires : goal.put-requires
put-requires c = c.loop-i.invariant.0.walking

pub returns-in_err-count : goal.returns-in_err-count
returns-in_err-count c =
    rw (handed_on c.from_residual.result c.from_residual.ensures.0)
    (closing-large c.loop-i.invariant.0 c.loop-i-test.true c.read_label-label.ensures c.labels_in-last.ensures
    c.in_err-count.ensures refl)

pub loop-i-preserved : goal.loop-i-preserved
loop-i-preserved c =
    let kept = c.put.auto in (
      closing-holds c.loop-i.invariant.0 c.loop-i-test.true c.read_label-label.ensures c.labels_in-last.ensures
          c.in_ok-count.ensures refl (held-long _ _ kept.states),
      kept.states ∙ c.loop-i.invariant.1,
      kept.out ∙ c.loop-i.invariant.2,
    )

pub returns : goal.returns
returns c = row-end c.loop-i.invariant.0.walk c.loop-i-test.false
