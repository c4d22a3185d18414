use Rattle.std.proofs.Common.{refl, ◌∙◌, arith, leb-true}
use Rattle.labels.specs.Packing.{code}
use Rattle.labels.proofs.Sizes.{size_few}
use Rattle.areas.specs.Rows.{held}
use Rattle.sets.proofs.Steps.{handed_on}
use Rattle.extents.proofs.RowWalks.{row-large, row-end}
use Rattle.sums.proofs.SumLaws.{steady-row_of}
use Rattle.sums.proofs.SeenLaws.{table-start, table-holds}
use Rattle.sums.proofs.add_each.Goals as goal

pub loop-i-init : goal.loop-i-init
loop-i-init c =
    (table-start c.requires.0 c.reach-count.ensures c.labels_in-end.ensures, refl, refl)

pub overflow_add-fits : goal.overflow_add-fits
overflow_add-fits c =
    omega (arith, c.size.ensures, size_few (code c.read_label-label.result), c.requires.1)

pub add_row-requires : goal.add_row-requires
add_row-requires c = (
  c.loop-i.invariant.0.kept,
  λ fit i h. omega (arith, leb-true, c.size.ensures, c.requires.2 i h),
)

pub returns-in_err-count : goal.returns-in_err-count
returns-in_err-count c =
    let by = c.args.b.now in
    rw (handed_on c.from_residual.result c.from_residual.ensures.0)
    (row-large c.loop-i.invariant.0.walk (λ room. steady-row_of room (held by)) c.loop-i-test.true c.read_label-label.ensures
    c.in_err-count.ensures.grown refl)

pub loop-i-preserved : goal.loop-i-preserved
loop-i-preserved c =
    let by = c.args.b.now in
    let kept = c.add_row.auto in (
      table-holds c.loop-i.invariant.0 (λ room. steady-row_of room (held by)) c.loop-i-test.true c.read_label-label.ensures
          c.in_ok-count.ensures refl,
      kept.seen ∙ c.loop-i.invariant.1,
      kept.out ∙ c.loop-i.invariant.2,
    )

pub returns : goal.returns
returns c = row-end c.loop-i.invariant.0.walk c.loop-i-test.false
