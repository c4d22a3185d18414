-- What the answer of a call says, and what a call leaves.
-- Assumes nothing.
use Rattle.std.specs.Prelude.{◌≡◌, Bool, true, false, List, [], map, ℕ, ◌≤◌, length, take, Result, Ok, Err, Option}
use Rattle.meaning.specs.Bytes.{Text}
use Rattle.meaning.specs.Answers as A
use Rattle.meaning.specs.Answers.{too_long, in_line, large, Verdict}
use Rattle.faults.specs.CodedFaults.{fault_of}
use Rattle.table.specs.Encoded.{filled, word_of}
use Rattle.areas.specs.Areas.{zeroed}
use Rattle.areas.specs.Rows.{held}
use Rattle.grammar.specs.Printed.{refused_text, answer_text}
use Rattle.grammar.specs.Areas.{WrittenOrNone}
use Rattle.label_texts.specs.Packed.{name_texts, counts_of}
use Rattle.reading.specs.declared.ReadError.{ReadError}
use Rattle.reading.specs.declared.ReadError.TheVariants as B
use Rattle.sets.specs.declared.TooLarge as S
use Rattle.rounds.specs.declared.Listed.{Listed}
use Rattle.rimecutter.specs.declared.Refusal.{Refusal}
use Rattle.rimecutter.specs.declared.Refusal.TheVariants.{TooLong, Bad, TooLarge}
use Rattle.rimecutter.specs.declared.calls.Response.{Response}
use Rattle.rimecutter.specs.Calls.{Call, refusing, answering, verdict_of, answer_after, work_after, work_words}

-- What is listed, or why nothing is.
abbrev pub Answer : Type 0
Answer = Result Listed Refusal

-- The number and the values of each case (docs/FORMAT.md, "What is printed"): number 0 for an answer, its rounds and its number of labels.
abbrev pub verdict_for : Answer → Verdict
verdict_for (Ok l) = record { reason = 0; line = 0; column = 0; rounds = l.rounds; labels = l.labels }
verdict_for (Err TooLong) = A.refused too_long
verdict_for (Err (Bad b)) = A.refused (in_line (fault_of b.flaw.fault) b.line b.flaw.column)
verdict_for (Err TooLarge) = A.refused large

-- A call settles its answer and every word of both areas.
pub record Settled (c : Call) (work work' answer answer' : List ℕ) (r : Answer) : Type 0 where
  pub verdict : verdict_for r ≡ verdict_of c
  pub works : work' ≡ work_after c work
  pub answers : answer' ≡ answer_after c answer

-- the names an answer is printed with, packed in words
abbrev pub NamesFor : Call → List ℕ → Type 0
NamesFor (refusing r) names = Unit {0}
NamesFor (answering words rounds labels) names = names ≡ filled 24 0 (map word_of words)

-- what is answered, and with which names: none with a refusal
abbrev pub answer_in : Result Response Refusal → Answer
answer_in (Ok r) = Ok r.listed
answer_in (Err e) = Err e

abbrev pub names_with : Result Response Refusal → List ℕ
names_with (Ok r) = r.names
names_with (Err e) = []

pub record Responded (c : Call) (work work' answer answer' : List ℕ) (r : Result Response Refusal) : Type 0 where
  pub settled : Settled c work work' answer answer' (answer_in r)
  pub names : NamesFor c (names_with r)

-- What the rounds answer and why a text was not read, as the call tells it. No room is told as too large.
abbrev pub answer_for : Result Listed S.TooLarge → Answer
answer_for (Err e) = Err TooLarge
answer_for (Ok l) = Ok l

abbrev pub refusal_for : ReadError → Refusal
refusal_for (B.Bad b) = Bad b
refusal_for B.TooLong = TooLong
refusal_for B.NoRoom = TooLarge

-- whether it is refusal 7
abbrev pub is_large : Answer → Bool
is_large (Err TooLarge) = true
is_large (Err TooLong) = false
is_large (Err (Bad b)) = false
is_large (Ok l) = false

-- What is told in small areas: nothing, where it is too large; else what the call tells, with its labels in the answer area.
pub record RespondedFew (c : Call) (answer answer' : List ℕ) (r : Result Response Refusal) : Type 0 where
  pub untold : answer_in r ≡ Err TooLarge → answer' ≡ answer
  pub told : (answer_in r ≡ Err TooLarge → ⊥)
      → (verdict_for (answer_in r) ≡ verdict_of c) × (answer' ≡ answer_after c answer) × NamesFor c (names_with r)

-- What is told in areas of the call's own that are enough: what the call tells, with its labels over what the rounds left in the answer area.
pub record RespondedOwn (c : Call) (answer' : List ℕ) (r : Result Response Refusal) : Type 0 where
  pub under : List ℕ
  pub told : (verdict_for (answer_in r) ≡ verdict_of c) × (answer' ≡ answer_after c under) × NamesFor c (names_with r)

-- Refusal 1 leaves the work area as it was, everything else clears it.
abbrev pub cleared_unless : Answer → List ℕ → List ℕ
cleared_unless (Err TooLong) work = work
cleared_unless (Ok l) work = zeroed work_words work
cleared_unless (Err (Bad b)) work = zeroed work_words work
cleared_unless (Err TooLarge) work = zeroed work_words work

pub record Cleared (r : Result Response Refusal) (work work' : List ℕ) (a : Result Response Refusal) : Type 0 where
  pub same : a ≡ r
  pub works : work' ≡ cleared_unless (answer_in r) work

-- The text of a response, whose labels are the first words of an area.
abbrev pub said_text : Answer → (names words : List ℕ) → Text
said_text (Ok l) names words = answer_text (name_texts names) l.rounds (map counts_of (take l.labels (held words)))
said_text (Err TooLong) names words = refused_text 1 0 0
said_text (Err (Bad b)) names words = refused_text (A.fault_number (fault_of b.flaw.fault)) b.line b.flaw.column
said_text (Err TooLarge) names words = refused_text 7 0 0

abbrev pub listed_in : Answer → ℕ
listed_in (Ok l) = l.labels
listed_in (Err e) = 0

pub record TextWritten (x : Result Response Refusal) (words area area' : List ℕ) (r : Option ℕ) : Type 0 where
  pub printed : listed_in (answer_in x) ≤ length (held words) → WrittenOrNone (said_text (answer_in x) (names_with x) words) area area' r
