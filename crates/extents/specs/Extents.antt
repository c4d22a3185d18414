-- Where rows of labels stand in lent words, kept in a row of numbers: two for each, where it begins and where it ends.
-- Assumes nothing.
use Rattle.std.specs.Prelude.{Bool, List, ℕ, ◌+◌, ◌*◌, leb, get_or, set}
use Rattle.parts.specs.declared.Part.{Part}
use Rattle.parts.specs.declared.Target.{Target}
use Rattle.parts.specs.Parts.{part, most_labels}

-- where the i-th of them stands, which is nowhere past the end; the row with another place for it
abbrev pub part_at : List ℕ → ℕ → Part
part_at row i = record { from = get_or row (2 * i) 0; to = get_or row (2 * i + 1) 0 }

abbrev pub with_part : List ℕ → ℕ → Part → List ℕ
with_part row i p = set (set row (2 * i) p.from) (2 * i + 1) p.to

-- whether it has no label, and its labels, as far as it lies in the list
abbrev pub is_empty : Part → Bool
is_empty p = leb p.to p.from

abbrev pub words_in : Part → List ℕ → List ℕ
words_in p ls = part p.from p.to ls

-- a set at the start of a list of its own
abbrev pub at_start : ℕ → Target
at_start len = record { at = 0; len = len; most = most_labels }
