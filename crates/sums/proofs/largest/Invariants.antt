-- `sums::largest` meets its contract. The loop's invariant: no label before the i-th has more actions. Assumes nothing.
use Rattle.std.proofs.Common.{◌≡◌, ℕ, ◌<◌, ◌≤◌, length, get_or}
use Rattle.labels.specs.Bags.{size_of}
use Rattle.areas.specs.Rows.{held}
use Rattle.sums.proofs.largest.Given as goal

abbrev pub invariant-loop-i : goal.invariant-loop-i
invariant-loop-i l =
    (l.end ≡ length (held l.row)) × (l.most ≤ 31) × ((k : ℕ) → k < l.i → size_of (get_or (held l.row) k 0) ≤ l.most)
