-- Term lines as the code reads them from the start of a text.
-- Assumes nothing.
use Rattle.std.specs.Prelude.{◌≡◌, List, map, ℕ, ◌≤◌, Option, Ok, Err, drop, length}
use Rattle.meaning.specs.Bytes.{Text}
use Rattle.table.specs.Decoded.{name_of}
use Rattle.slots.specs.declared.Term.{Term}
use Rattle.table.specs.Encoded.{term_words, term_for}
use Rattle.grammar.specs.Text.{Past, past, stuck}
use Rattle.grammar.specs.Forms.{Line, term_line}
use Rattle.grammar.specs.Faults.{fine, term_said, term_fault}
use Rattle.faults.specs.CodedFaults.{found_of}
use Rattle.faults.specs.declared.FaultAt.{FaultAt}
use Rattle.words.specs.Steps.{Reading}
use Rattle.lists.specs.Entries.{with_few}
use Rattle.lists.specs.Lists.{overlaid}
use Rattle.tails.specs.declared.TermLine.{TermLine}

-- A line with all its faults joined: the term at its number, how many bytes the line took, and the list's words over the start of the
-- store where there is no fault.
pub record TermTaken (words : List Text) (equations n : ℕ) (text : Text) (due : Past Line) (before after : List ℕ)
    (x : Term) (f : Option FaultAt) (took : ℕ) : Type 0 where
  pub line : Line
  pub says : past line (drop took text) ≡ due
  pub within : took ≤ length text
  pub term : x ≡ term_for n (term_said words line)
  pub faults : found_of f ≡ term_fault words equations n line
  pub stored : term_fault words equations n line ≡ fine → after ≡ overlaid (term_words (term_said words line)) before
  pub long : length after ≡ length before

abbrev pub TermRead : List Text → (equations n : ℕ) → Text → Past Line → List ℕ → List ℕ → Reading TermLine → Type 0
TermRead words equations n text due before after (Ok t) =
    TermTaken words equations n text due before after t.value.term t.value.fault t.bytes
TermRead words equations n text due before after (Err s) = (stuck (drop s.after text) ≡ due) × (length after ≡ length before)

-- The line with which a text begins; with more names than a description has nothing is read.
abbrev pub TermAnswer : List ℕ → (equations n : ℕ) → Text → List ℕ → List ℕ → Reading TermLine → Type 0
TermAnswer names equations n text before after r =
    TermRead (map (name_of 8) names) equations n text (with_few names (term_line text) text) before after r
