-- The kinds without a list.
-- Assumes nothing.
use Rattle.std.specs.Prelude.{◌≡◌, ℕ, ◌≤◌, Option, Ok, Err, ltb, length, drop}
use Rattle.meaning.specs.Bytes.{Text}
use Rattle.meaning.specs.Descriptions as D
use Rattle.meaning.specs.Rounds.{pick}
use Rattle.slots.specs.Packing.{plain_of}
use Rattle.table.specs.Terms.{IsPlain, bare_term}
use Rattle.slots.specs.declared.Term.{Term}
use Rattle.grammar.specs.Text.{Past, past, stuck}
use Rattle.grammar.specs.Forms.{Places, Line, plain, alone, of_name, of_one, of_two}
use Rattle.grammar.specs.Faults.{range_fault}
use Rattle.faults.specs.CodedFaults.{found_of}
use Rattle.faults.specs.declared.FaultAt.{FaultAt}
use Rattle.words.specs.Steps.{Reading, Stands}
use Rattle.ranges.specs.declared.Bounds.{Bounds}
use Rattle.tails.specs.declared.TermLine.{TermLine}

-- A term of numbers alone: there is no name and no list in it that could have a fault.
pub record PlainTerm (bounds : Bounds) (text : Text) (due : Past Line) (x : Term) (f : Option FaultAt) (took : ℕ) : Type 0 where
  pub places : Places
  pub says : past (plain (bare_term x) places) (drop took text) ≡ due
  pub within : took ≤ length text
  pub faults : found_of f ≡ range_fault bounds.equations bounds.term (bare_term x) places
  pub plainly : IsPlain x

abbrev pub PlainRead : Bounds → Text → Past Line → Reading TermLine → Type 0
PlainRead bounds text due (Ok t) = PlainTerm bounds text due t.value.term t.value.fault t.bytes
PlainRead bounds text due (Err s) = Stands text s.after (stuck (drop s.after text)) due

-- The kinds with one number and with two, which the table counts by their places among all kinds: by the last number, and one
-- before it for the kinds with two.
abbrev pub made_of : ℕ → ℕ → ℕ → D.Term
made_of k t u = bare_term (plain_of k t u)

-- What follows the word of a kind without a list, by the kind's place: delta, tau, act, and those with one number and with two.
abbrev pub plain_tail : ℕ → Text → Past Line
plain_tail k s =
    pick (ltb k 1) (alone D.delta s) (pick (ltb k 2) (alone D.tau s) (pick (ltb k 3) (of_name s)
    (pick (ltb k 6) (of_one (made_of k 0) s) (of_two (made_of k) s))))
