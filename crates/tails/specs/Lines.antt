-- A term's line as the code reads it from the start of a text, with its names looked up.
-- Assumes nothing.
use Rattle.std.specs.Prelude.{◌≡◌, List, ℕ, ◌≤◌, Option, Ok, Err, length, drop}
use Rattle.meaning.specs.Bytes.{Text}
use Rattle.slots.specs.declared.Term.{Term}
use Rattle.table.specs.Encoded.{term_words, term_for}
use Rattle.grammar.specs.Text.{Past, past, stuck}
use Rattle.grammar.specs.Forms.{Line}
use Rattle.grammar.specs.Faults.{Found, fine, term_said, term_fault}
use Rattle.faults.specs.CodedFaults.{found_of}
use Rattle.faults.specs.declared.FaultAt.{FaultAt}
use Rattle.words.specs.Steps.{Reading, Stands}
use Rattle.lists.specs.Lists.{overlaid}
use Rattle.ranges.specs.declared.Bounds.{Bounds}
use Rattle.tails.specs.declared.TermLine.{TermLine}

-- The fault of a line, its numbers held to their bounds.
abbrev pub fault_in : List Text → Bounds → Line → Found
fault_in words bounds line = term_fault words bounds.equations bounds.term line

-- The term at its number, the fault of its line, how many bytes that took, and the list's words over the start of the store.
pub record LineTerm (words : List Text) (bounds : Bounds) (text : Text) (due : Past Line) (before after : List ℕ)
    (x : Term) (f : Option FaultAt) (took : ℕ) : Type 0 where
  pub line : Line
  pub says : past line (drop took text) ≡ due
  pub within : took ≤ length text
  pub term : x ≡ term_for bounds.term (term_said words line)
  pub faults : found_of f ≡ fault_in words bounds line
  pub stored : fault_in words bounds line ≡ fine → after ≡ overlaid (term_words (term_said words line)) before

-- where it is stuck the place lies in the text
abbrev pub LineRead : List Text → Bounds → Text → Past Line → List ℕ → List ℕ → Reading TermLine → Type 0
LineRead words bounds text due before after (Ok t) = LineTerm words bounds text due before after t.value.term t.value.fault t.bytes
LineRead words bounds text due before after (Err s) = Stands text s.after (stuck (drop s.after text)) due

-- a line that has no list: nothing is put into any store
abbrev pub Storeless : Bounds → List Text → Text → Past Line → Reading TermLine → Type 0
Storeless bounds words text due r = (store : List ℕ) → LineRead words bounds text due store store r

-- nor a number: it is the same whatever numbers are held to
abbrev pub Unbounded : List Text → Text → Past Line → Reading TermLine → Type 0
Unbounded words text due r = (bounds : Bounds) → Storeless bounds words text due r
