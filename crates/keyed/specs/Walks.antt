-- How far the code has come in a text.
-- Assumes nothing.
use Rattle.std.specs.Prelude.{◌≡◌, ℕ, ◌≤◌, ◌<◌, length, drop, Result, Ok, Err}
use Rattle.meaning.specs.Bytes.{Text}
use Rattle.faults.specs.CodedFaults.{flaw_of}
use Rattle.faults.specs.declared.Flaw.{Flaw}
use Rattle.grammar.specs.Reading.{Walk, reached, halted}
use Rattle.words.specs.declared.Taken.{Taken}
use Rattle.keyed.specs.declared.BadLine.{BadLine}

-- What was read with the last number, the next line's number and the text from there on.
abbrev pub walk_of : {A : Type 0} → (ℕ → A) → Text → ℕ → Result (Taken ℕ) BadLine → Walk A
walk_of value text next (Ok t) = reached (value t.value) next (drop t.bytes text)
walk_of value text next (Err b) = halted (flaw_of b.flaw) b.line

-- What is returned of a bad line.
abbrev pub refusal : {T : Type 0} → Flaw → ℕ → Result T BadLine
refusal f line = Err (record { flaw = f; line = line })

-- The bytes that the lines took are bytes of the text, and a bad line stands before the next.
abbrev pub TookOf : Text → ℕ → Result (Taken ℕ) BadLine → Type 0
TookOf text next (Ok t) = t.bytes ≤ length text
TookOf text next (Err b) = b.line < next

pub record Walks {A : Type 0} (value : ℕ → A) (text : Text) (next : ℕ) (r : Result (Taken ℕ) BadLine) (due : Walk A) : Type 0 where
  pub says : walk_of value text next r ≡ due
  pub within : TookOf text next r
