-- Words of the papers as bytes: `ascii "done"` is the list of the four letters' codes.
-- Assumes nothing.
use Rattle.std.specs.Prelude.{ℕ, zero, suc, List, [], ◌∷◌}
use Prim.Native.Char.{code}
use Prim.Native.String.{String, len, char_at}

abbrev pub Text : Type 0
Text = List ℕ

abbrev pub codes_from : ℕ → ℕ → String → Text
codes_from zero at s = []
codes_from (suc more) at s = code (char_at s at) ∷ codes_from more (suc at) s

abbrev pub ascii : String → Text
ascii s = codes_from (len s) 0 s
