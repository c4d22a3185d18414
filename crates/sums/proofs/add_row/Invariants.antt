-- `sums::add_row` meets its contract. The loop's invariant: the sums with the labels from the i-th on are to come, and the set has those in
-- the table. Assumes nothing.
use Rattle.std.proofs.Common.{◌≡◌, length}
use Rattle.labels.specs.Packing.{code}
use Rattle.areas.specs.Rows.{held}
use Rattle.sums.specs.Sums.{sum_in}
use Rattle.sums.proofs.SeenLaws.{TableWalk}
use Rattle.sums.proofs.add_row.Given as goal

abbrev pub invariant-loop-i : goal.invariant-loop-i
invariant-loop-i l =
    TableWalk (λ room. sum_in room (code l.label)) (held l.by) l.len (held l.initial.out) l.end (held l.seen) (held l.out) l.count l.i
    × (length l.seen ≡ length l.initial.seen) × (length l.out ≡ length l.initial.out)
