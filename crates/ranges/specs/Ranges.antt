-- The numbers of a term held to what the code is given: their bounds, and the places where they begin.
-- Assumes nothing.
use Rattle.std.specs.Prelude.{ℕ}
use Rattle.meaning.specs.Descriptions.{Term}
use Rattle.grammar.specs.Forms as F
use Rattle.grammar.specs.Faults.{Found, both_fault, range_fault}
use Rattle.ranges.specs.declared.Bounds.{Bounds}
use Rattle.ranges.specs.declared.Places.{Places}

abbrev pub places_for : Places → F.Places
places_for at = record { first = at.first; second = at.second }

abbrev pub both_out : ℕ → ℕ → ℕ → Places → Found
both_out bound t u at = both_fault bound t u (places_for at)

abbrev pub out_of_range : Bounds → Term → Places → Found
out_of_range bounds t at = range_fault bounds.equations bounds.term t (places_for at)
