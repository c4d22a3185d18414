-- `sums::few::put_row` meets its contract. The loop's invariant: the sums with the labels from the i-th on are to come. Assumes nothing.
use Rattle.std.proofs.Common.{◌≡◌, length}
use Rattle.labels.specs.Packing.{code}
use Rattle.areas.specs.Rows.{held}
use Rattle.extents.proofs.RowWalks.{RowWalk}
use Rattle.sums.specs.Sums.{sum_in}
use Rattle.sums.proofs.few.put_row.Given as goal

abbrev pub invariant-loop-i : goal.invariant-loop-i
invariant-loop-i l =
    RowWalk (λ room. sum_in room (code l.label)) (held l.by) l.len (held l.initial.out) l.end (held l.out) l.count l.i × (length l.out ≡ length l.initial.out)
