-- A pair of names in a word: `a>b` is a + 32 b.
-- Assumes nothing.
use Rattle.std.specs.Prelude.{List, map, ℕ, ◌+◌, ◌*◌, ◌/◌, ◌%◌}
use Rattle.meaning.specs.Descriptions.{Pair}

abbrev pub pair_word : Pair → ℕ
pair_word p = p.left + 32 * p.right

abbrev pub pair_of : ℕ → Pair
pair_of w = record { left = w % 32; right = w / 32 }

abbrev pub pairs_in : List ℕ → List Pair
pairs_in words = map pair_of words
