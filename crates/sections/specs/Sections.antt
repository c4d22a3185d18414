-- What a section of lines comes to, as the code reads it.
-- Assumes nothing.
use Rattle.std.specs.Prelude.{◌≡◌, Bool, true, false, List, ℕ, ◌≤◌, length, drop, Result, Ok, Err}
use Rattle.meaning.specs.Bytes.{Text}
use Rattle.faults.specs.CodedFaults.{flaw_of}
use Rattle.grammar.specs.Reading.{Walk, reached, halted}
use Rattle.words.specs.declared.Taken.{Taken}
use Rattle.keyed.specs.declared.BadLine.{BadLine}

-- What was read, with the number of the next line and the text from there on; and what is left of it.
pub record Section {A : Type 0} (text : Text) (due : Walk A) (next : A → ℕ) (Left : A → Type 0) (took : ℕ) : Type 0 where
  pub read : A
  pub says : reached read (next read) (drop took text) ≡ due
  pub within : took ≤ length text
  pub left : Left read

-- So many bytes of lines, or the fault of a line with its column, and the line's number.
abbrev pub Passes : {A : Type 0} → Text → Walk A → (A → ℕ) → (A → Type 0) → Result ℕ BadLine → Type 0
Passes text due next Left (Ok took) = Section text due next Left took
Passes text due next Left (Err b) = halted (flaw_of b.flaw) b.line ≡ due

-- the same, with a number that is returned
abbrev pub Comes : {A : Type 0} → Text → Walk A → (A → ℕ) → (ℕ → A → Type 0) → Result (Taken ℕ) BadLine → Type 0
Comes text due next Left (Ok t) = Section text due next (Left t.value) t.bytes
Comes text due next Left (Err b) = halted (flaw_of b.flaw) b.line ≡ due

-- No more than the first so many words of an area are touched.
pub record Within (n : ℕ) (before after : List ℕ) : Type 0 where
  pub long : length after ≡ length before
  pub behind : drop n after ≡ drop n before

-- Whether something holds.
abbrev pub Whether : Bool → Type 0 → Type 0
Whether true P = P
Whether false P = P → ⊥

-- What is promised for areas of any lengths: what is read where there is room for it, and what is answered else.
pub record Roomed (Room Read Else : Type 0) : Type 0 where
  pub roomy : Room → Read
  pub narrow : (Room → ⊥) → Else
