-- The sums of two lists of labels, put into a set.
-- Assumes nothing.
use Rattle.std.specs.Prelude.{ℕ, ◌<◌, ◌≤◌, List, length, slice_index}
use Rattle.labels.specs.Bags.{sum_of, size_of}
use Rattle.sets.specs.Building.{Building, each, enter, summed}

-- Each label of the first added to each of the second.
abbrev pub sum_in : ℕ → ℕ → ℕ → List ℕ → Building
sum_in room a w = summed (enter room) (sum_of a w)

abbrev pub row_of : ℕ → List ℕ → ℕ → List ℕ → Building
row_of room bs a = each (sum_in room a) bs

abbrev pub sums_of : ℕ → List ℕ → List ℕ → List ℕ → Building
sums_of room ls bs = each (row_of room bs) ls

-- No label of a list has more actions than a number says.
abbrev pub NoLarger : ℕ → List ℕ → Type 0
NoLarger most ls = (i : ℕ) → i < length ls → size_of (slice_index ls i) ≤ most
