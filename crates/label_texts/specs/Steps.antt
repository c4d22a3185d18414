-- What a step of a writer of labels writes. Only private functions cite this: no public contract rests on it.
-- Assumes nothing.
use Rattle.std.specs.Prelude.{true, false, [], ◌∷◌, ℕ, eqb}
use Rattle.meaning.specs.Bytes.{Text}
use Rattle.grammar.specs.Forms.{dot}
use Rattle.grammar.specs.Marks.{part_text}

-- The next part of a label of which so many bytes are written.
unfoldable pub next_text : ℕ → Text → ℕ → Text
next_text written word times =
    elim (eqb times 0) [
      | true ↦ []
      | false ↦ elim (eqb written 0) [ true ↦ part_text word times | false ↦ dot ∷ part_text word times ]
    ]
