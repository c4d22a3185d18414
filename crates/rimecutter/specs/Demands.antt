-- What the three demands say of a call that was made and kept its promise. The theorems are in proofs/Demands.antt.
-- Assumes nothing.
use Rattle.std.specs.Prelude.{◌≡◌, ◌↔◌, List, ℕ, ◌≤◌, length, take}
use Rattle.meaning.specs.Bytes.{Text, ascii}
use Rattle.meaning.specs.Labels.{Label}
use Rattle.meaning.specs.Sets.{◌∈◌}
use Rattle.meaning.specs.Descriptions.{Description, Order}
use Rattle.meaning.specs.Runs.{OnRun}
use Rattle.meaning.specs.Limits.{PassesLimit}
use Rattle.meaning.specs.Answers as A
use Rattle.meaning.specs.Answers.{Allows, listed, Lists, Refusal, Verdict}
use Rattle.grammar.specs.Reading.{read, read_text}
use Rattle.grammar.specs.Printed.{line, answer_text}
use Rattle.grammar.specs.Areas.{with_start, Printed}
use Rattle.rimecutter.specs.Calls.{refusing, call, own_call, shown, cleared, work_after, text_of, number_in_text}
use Rattle.rimecutter.specs.Answers.{Answer, verdict_for, Settled}
use Rattle.rimecutter.specs.Refusals.{Due}

-- A call: the text, each area before and after, and the answer; of them no more is known than that the promise was kept.
pub record Made : Type 0 where
  pub text : Text
  pub work : List ℕ
  pub work' : List ℕ
  pub answer : List ℕ
  pub answer' : List ℕ
  pub result : Answer
  pub kept : Settled (call text (length work) (length answer)) work work' answer answer' result

-- The number, line, column, rounds and number of labels that it answered.
abbrev pub verdict_given : Made → Verdict
verdict_given m = verdict_for m.result

-- the refusal that is due, told from the input
abbrev pub DueOf : Made → Refusal → Type 0
DueOf m r = Due m.text (length m.work) (length m.answer) r

-- Demand 1: a description that was read is answered, or a refusal is given that was due; each with what the areas hold.
pub record Answered (m : Made) : Type 0 where
  pub given : Description
  pub order : Order
  pub reads : read_text m.text ≡ read given order
  pub rounds : ℕ
  pub labels : List Label
  pub lists : Lists given order rounds labels
  pub says : verdict_given m ≡ A.verdict (listed rounds labels)
  pub answers : m.answer' ≡ shown labels m.answer
  pub works : m.work' ≡ cleared m.work

pub record RefusedWith (m : Made) (r : Refusal) : Type 0 where
  pub says : verdict_given m ≡ A.refused r
  pub answers : m.answer' ≡ m.answer
  pub works : m.work' ≡ work_after (refusing r) m.work

pub record Refused (m : Made) : Type 0 where
  pub refusal : Refusal
  pub due : DueOf m refusal
  pub refused : RefusedWith m refusal

-- Demand 2: of a well-formed description "too large" is said exactly when its least sets pass a limit, and otherwise exactly those
-- labels of the root's set are listed that the order allows.
pub record Listing (m : Made) (d : Description) (o : Order) : Type 0 where
  pub rounds : ℕ
  pub labels : List Label
  pub lists : Lists d o rounds labels
  pub says : verdict_given m ≡ A.verdict (listed rounds labels)
  pub answers : m.answer' ≡ shown labels m.answer

pub record Right (m : Made) (d : Description) (o : Order) : Type 0 where
  pub large : ((verdict_given m).reason ≡ 7) ↔ PassesLimit d
  pub listing : (PassesLimit d → ⊥) → Listing m d o

-- Demand 3: the first call is answered too, and every label on any finite run of the first description that its order allows is
-- listed by the second call.
pub record Safe (m m' : Made) (d : Description) (o : Order) : Type 0 where
  pub answered : (verdict_given m).reason ≡ 0
  pub listed-labels : List Label
  pub shown : m'.answer' ≡ shown listed-labels m'.answer
  pub count : (verdict_given m').labels ≡ length listed-labels
  pub covered : (a : Label) → OnRun d a → Allows o a → a ∈ listed-labels

-- A call for C: the text, the text area before and after, and the length.
pub record Called : Type 0 where
  pub text : Text
  pub area : Text
  pub area' : Text
  pub size : ℕ
  pub kept : Printed (text_of (own_call text)) area area' size

-- what it has to say, and that the area holds it
abbrev pub text_due : Called → Text
text_due c = text_of (own_call c.text)

abbrev pub Holds : Called → Type 0
Holds c = length (text_due c) ≤ length c.area

-- the number that it gives
abbrev pub number_of : Called → ℕ
number_of c = number_in_text (own_call c.text) (length c.area)

-- an area that begins with the first line of an answer
abbrev pub SaysOk : Text → Type 0
SaysOk area = take 10 area ≡ line (ascii "answer=") (ascii "ok")

-- Demand 3 of two calls for C, over what they print: the first prints an answer too, and the second's text lists the label.
pub record SafeText (c c' : Called) (d : Description) (o : Order) (d' : Description) : Type 0 where
  pub answered : SaysOk c.area'
  pub rounds : ℕ
  pub listed-labels : List Label
  pub shown : c'.area' ≡ with_start (answer_text d'.words rounds listed-labels) c'.area
  pub covered : (a : Label) → OnRun d a → Allows o a → a ∈ listed-labels
