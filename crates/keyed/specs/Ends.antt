-- Lines as the code ends them.
-- Assumes nothing.
use Rattle.std.specs.Prelude.{Bool, true, false, ℕ, ◌+◌, ◌-◌, length, drop, Ok, Err}
use Rattle.meaning.specs.Bytes.{Text}
use Rattle.grammar.specs.Text.{Placed, lf, starts}
use Rattle.words.specs.Steps.{Reading}

-- What stands behind the first so many bytes of a text.
abbrev pub placed_after : {A : Type 0} → (bytes : ℕ) → Text → A → Placed A
placed_after bytes text a = record { it = a; from = length text - bytes }

-- A step up to a place, where LF ends the line, or does not.
abbrev pub past_end : Bool → ℕ → ℕ → Reading ℕ
past_end true v next = Ok (record { value = v; bytes = next + 1 })
past_end false v next = Err (record { after = next })

-- A step of the rest of a text from a place on, as the last of its line.
abbrev pub ended_from : Text → ℕ → Reading ℕ → Reading ℕ
ended_from text at (Ok t) = past_end (starts lf (drop (at + t.bytes) text)) t.value (at + t.bytes)
ended_from text at (Err s) = Err (record { after = at + s.after })
