-- `images::imaging::add_offered` meets its contract. The loop's invariant: what the labels from the i-th on give is to come. Assumes nothing.
use mathlib.Core.Path.{◌≡◌}
use lib.ListN.{length}
use Rattle.areas.specs.Rows.{held}
use Rattle.extents.proofs.RowWalks.{RowWalk}
use Rattle.images.specs.Imaging.{taken_by, offered}
use Rattle.images.proofs.imaging.add_offered.Given as goal

abbrev pub invariant-loop-i : goal.invariant-loop-i
invariant-loop-i l =
    RowWalk (λ room. offered room l.way (taken_by l.way l.list)) (held l.labels) l.len (held l.initial.out) l.end (held l.out) l.count l.i
    × (length l.out ≡ length l.initial.out)
