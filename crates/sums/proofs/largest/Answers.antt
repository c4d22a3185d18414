use Rattle.std.proofs.Common.{◌≤◌, get_or, ap, ◌∙◌, arith, below_more}
use Rattle.std.specs.Ordering.{ord_max}
use Rattle.labels.specs.Bags.{size_of}
use Rattle.labels.proofs.Codes.{code_of}
use Rattle.labels.proofs.Sizes.{size_few}
use Rattle.areas.specs.Rows.{held}
use Rattle.sums.proofs.largest.Goals as goal

pub loop-i-preserved : goal.loop-i-preserved
loop-i-preserved c =
    let row = held c.args.row.now in
    let few = c.loop-i.invariant.2 in
    let here = c.size.ensures ∙ ap size_of (code_of c.read_label.ensures) in
    let most : (c.loop-i.most ≤ c.max-most.result) × (size_of (get_or row c.loop-i.i 0) ≤ c.max-most.result) × (c.max-most.result ≤ 31) =
    grind (arith, ord_max, here, c.max-most.ensures, size_few (get_or row c.loop-i.i 0), c.loop-i.invariant.1) in (
      c.loop-i.invariant.0,
      most.2,
      below_more _ _ (λ k h. omega (arith, few k h, most.0)) most.1,
    )
