-- The number of a name that is looked for from a place on.
-- Assumes nothing.
use Rattle.std.specs.Prelude.{List, map, ℕ, ◌+◌, drop}
use Rattle.table.specs.Decoded.{name_of}
use Rattle.grammar.specs.Faults.{name_number}

abbrev pub number_from : List ℕ → ℕ → ℕ → ℕ
number_from names start w = start + name_number (map (name_of 8) (drop start names)) (name_of 8 w)
