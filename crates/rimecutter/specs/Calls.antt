-- What a call comes to (docs/FORMAT.md, "Limits" and "What is printed"): from the description's bytes and how long the lent areas are.
-- Assumes nothing.
use Rattle.std.specs.Prelude.{Bool, true, false, ◌||◌, List, ◌++◌, map, ℕ, ◌*◌, ltb, leb, length, drop, replicate}
use Rattle.meaning.specs.Bytes.{Text}
use Rattle.meaning.specs.Labels.{Label, number, in_words}
use Rattle.meaning.specs.Descriptions.{Description}
use Rattle.meaning.specs.Answers as A
use Rattle.meaning.specs.Answers.{Outcome, too_large, listed, Refusal, too_long, in_line, large, Verdict}
use Rattle.grammar.specs.Reading.{Reading, read, overlong, bad_line, read_text, read_up_to}
use Rattle.grammar.specs.Printed.{refusal_text, answer_text}

-- A refusal, or an answer with the names it is printed with.
pub data Call : Type 0 where
  refusing : Refusal → Call
  answering : (words : List Text) (rounds : ℕ) (labels : List Label) → Call

abbrev pub work_words : ℕ
work_words = 8192

abbrev pub answer_words : ℕ
answer_words = 2048

-- Refusal 1 comes first, refusal 7 last.
abbrev pub too_short : ℕ → ℕ → Bool
too_short work answer = ltb work work_words || ltb answer answer_words

abbrev pub of_outcome : Description → Outcome → Call
of_outcome d too_large = refusing large
of_outcome d (listed rounds labels) = answering d.words rounds labels

abbrev pub of_reading : Reading → Call
of_reading (read d o) = of_outcome d (A.answer d o)
of_reading overlong = refusing too_long
of_reading (bad_line f line) = refusing (in_line f.fault line f.column)

abbrev pub unless_short : Bool → Reading → Call
unless_short true r = refusing too_long
unless_short false r = of_reading r

unfoldable pub call : Text → (work answer : ℕ) → Call
call text work answer = unless_short (too_short work answer) (read_text text)

-- The call over areas of its own, which are long enough.
abbrev pub own_call : Text → Call
own_call text = call text work_words answer_words

-- The number, line, column, rounds and number of labels.
abbrev pub verdict_of : Call → Verdict
verdict_of (refusing r) = A.refused r
verdict_of (answering words rounds labels) = A.verdict (listed rounds labels)

-- On an answer the answer area begins with the label numbers, two words each, and the rest is unchanged; on a refusal it is unchanged.
abbrev pub shown : List Label → List ℕ → List ℕ
shown labels area = in_words (map number labels) ++ drop (2 * length labels) area

abbrev pub answer_after : Call → List ℕ → List ℕ
answer_after (refusing r) area = area
answer_after (answering words rounds labels) area = shown labels area

-- After refusal 1 the work area is unchanged; after every other call its first 8,192 words are 0 and the rest are unchanged.
abbrev pub cleared : List ℕ → List ℕ
cleared area = replicate work_words 0 ++ drop work_words area

abbrev pub work_after : Call → List ℕ → List ℕ
work_after (refusing too_long) area = area
work_after (refusing (in_line f line column)) area = cleared area
work_after (refusing large) area = cleared area
work_after (answering words rounds labels) area = cleared area

-- The text that is printed.
abbrev pub text_of : Call → Text
text_of (refusing r) = refusal_text r
text_of (answering words rounds labels) = answer_text words rounds labels

-- The text that was printed while a description had at most 12 names: that of the reading under that limit.
abbrev pub printed_before : Text → Text
printed_before text = text_of (of_reading (read_up_to 12 text))

-- The number that the C call gives: 8, in this call alone, if the whole text does not fit the area, and else what its text says.
abbrev pub number_in_text : Call → (room : ℕ) → ℕ
number_in_text c room = elim (leb (length (text_of c)) room) [ true ↦ (verdict_of c).reason | false ↦ 8 ]
