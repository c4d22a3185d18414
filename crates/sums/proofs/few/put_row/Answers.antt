use Rattle.std.proofs.Common.{refl, ◌∙◌}
use Rattle.labels.specs.Packing.{code}
use Rattle.sets.proofs.Steps.{handed_on}
use Rattle.extents.proofs.RowWalks.{row-start, row-end, row-holds, row-large}
use Rattle.sums.proofs.SumLaws.{steady-sum_in}
use Rattle.sums.proofs.few.put_row.Goals as goal

pub loop-i-init : goal.loop-i-init
loop-i-init c = (row-start c.reach-count.ensures c.labels_in-end.ensures, refl)

pub returns-in_err-count : goal.returns-in_err-count
returns-in_err-count c =
    let label = c.args.label in
    rw (handed_on c.from_residual.result c.from_residual.ensures.0)
    (row-large c.loop-i.invariant.0 (λ room. steady-sum_in room (code label)) c.loop-i-test.true c.read_label.ensures
    (rw c.sum-result.ensures at c.in_err-count.ensures) refl)

pub loop-i-preserved : goal.loop-i-preserved
loop-i-preserved c =
    let label = c.args.label in (
      row-holds c.loop-i.invariant.0 (λ room. steady-sum_in room (code label)) c.loop-i-test.true c.read_label.ensures
          (rw c.sum-result.ensures at c.in_ok-count.ensures) refl,
      c.put_sum.auto.out ∙ c.loop-i.invariant.1,
    )

pub returns : goal.returns
returns c = row-end c.loop-i.invariant.0 c.loop-i-test.false
