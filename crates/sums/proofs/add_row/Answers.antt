use Rattle.std.proofs.Common.{refl, ◌∙◌, arith}
use Rattle.labels.specs.Packing.{code}
use Rattle.labels.proofs.Codes.{code_of}
use Rattle.labels.proofs.Sizes.{size_few}
use Rattle.sets.proofs.Steps.{handed_on}
use Rattle.sums.proofs.SumLaws.{steady-sum_in}
use Rattle.sums.proofs.SeenLaws.{table-start, table-holds, table-large, table-end}
use Rattle.sums.proofs.add_row.Goals as goal

pub loop-i-init : goal.loop-i-init
loop-i-init c =
    (table-start c.requires.0 c.reach-count.ensures c.labels_in-end.ensures, refl, refl)

pub sum_of-result-requires : goal.sum_of-result-requires
sum_of-result-requires c fit =
    let few = c.requires.1 fit c.loop-i.i (omega (arith, c.loop-i-test.true, c.loop-i.invariant.0.walk.whole)) in
    rw (code_of c.read_label.ensures) (omega (arith, few, size_few (code c.args.label)))

pub take_sum-requires : goal.take_sum-requires
take_sum-requires c = c.loop-i.invariant.0.kept

pub returns-in_err-count : goal.returns-in_err-count
returns-in_err-count c =
    let label = c.args.label in
    rw (handed_on c.from_residual.result c.from_residual.ensures.0)
    (table-large c.loop-i.invariant.0 (λ room. steady-sum_in room (code label)) c.loop-i-test.true c.read_label.ensures
    (rw c.sum_of-result.ensures at c.in_err-count.ensures) refl)

pub loop-i-preserved : goal.loop-i-preserved
loop-i-preserved c =
    let label = c.args.label in
    let kept = c.take_sum.auto in (
      table-holds c.loop-i.invariant.0 (λ room. steady-sum_in room (code label)) c.loop-i-test.true c.read_label.ensures
          (rw c.sum_of-result.ensures at c.in_ok-count.ensures) refl,
      kept.seen ∙ c.loop-i.invariant.1,
      kept.out ∙ c.loop-i.invariant.2,
    )

pub returns : goal.returns
returns c = table-end c.loop-i.invariant.0 c.loop-i-test.false
