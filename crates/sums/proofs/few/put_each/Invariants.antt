-- `sums::few::put_each` meets its contract. The loop's invariant: the sums with the labels from the i-th on of the first row are to come. Assumes nothing.
use Rattle.std.proofs.Common.{◌≡◌, length}
use Rattle.areas.specs.Rows.{held}
use Rattle.extents.proofs.RowWalks.{RowWalk}
use Rattle.sums.specs.Sums.{row_of}
use Rattle.sums.proofs.few.put_each.Given as goal

abbrev pub invariant-loop-i : goal.invariant-loop-i
invariant-loop-i l =
    RowWalk (λ room. row_of room (held l.b)) (held l.a) l.len (held l.initial.out) l.end (held l.out) l.count l.i × (length l.out ≡ length l.initial.out)
