-- Parts of a list of labels.
-- Assumes nothing.
use Rattle.std.specs.Prelude.{List, ◌++◌, ℕ, ◌+◌, ◌-◌, min, length, take, drop}
use Rattle.parts.specs.declared.Part.{Part}

-- The labels from one place up to another, and those that stand before a third place as well.
abbrev pub part : ℕ → ℕ → List ℕ → List ℕ
part from to ls = drop from (take to ls)

abbrev pub part_before : ℕ → ℕ → ℕ → List ℕ → List ℕ
part_before at from to ls = part from to (take at ls)

abbrev pub words_of : ℕ → Part → List ℕ → List ℕ
words_of at p ls = part_before at p.from p.to ls

-- The set that holds `len` labels at a place, as far as they lie in the list; the list with a set laid at a place.
abbrev pub set_at : ℕ → ℕ → List ℕ → List ℕ
set_at at len ls = take len (drop at ls)

unfoldable pub laid : ℕ → List ℕ → List ℕ → List ℕ
laid at set ls = take at ls ++ set ++ drop (at + length set) ls

-- How many labels a set at a place may hold: as many as are given, as a set may have, and as the list has places.
abbrev pub most_labels : ℕ
most_labels = 1024

abbrev pub room_at : ℕ → ℕ → ℕ → ℕ
room_at at most end = min (min most most_labels) (end - at)

-- how many of `len` labels from a place on lie in the list
abbrev pub reach_of : ℕ → ℕ → ℕ → ℕ
reach_of at len end = min len (end - at)
