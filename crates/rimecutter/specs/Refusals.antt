-- Which refusal is due (docs/FORMAT.md, "What is printed"), told from the input alone: 1 comes first, then the first bad line
-- decides and in it the smallest number and its leftmost place, 7 is last.
-- Assumes nothing.
use Rattle.std.specs.Prelude.{◌≡◌, ◌⊎◌, ℕ, ◌≤◌, ◌<◌, length}
use Rattle.meaning.specs.Bytes.{Text}
use Rattle.meaning.specs.Descriptions.{Description, Order}
use Rattle.meaning.specs.Limits.{PassesLimit}
use Rattle.meaning.specs.Answers.{Refusal, too_long, in_line, large}
use Rattle.grammar.specs.Reading.{read, bad_line, read_text}
use Rattle.rimecutter.specs.Calls.{work_words, answer_words}

-- The lent areas are long enough.
pub record Roomy (work answer : ℕ) : Type 0 where
  pub works : work_words ≤ work
  pub answers : answer_words ≤ answer

-- A well-formed description whose least sets pass a limit.
pub record Large (text : Text) : Type 0 where
  pub given : Description
  pub order : Order
  pub reads : read_text text ≡ read given order
  pub passes : PassesLimit given

-- 1: input too long, or an area too short. 2 to 5: the first bad line, its smallest number and the leftmost column of that (`read_text`).
-- 7: the least sets pass a limit.
abbrev pub Due : Text → (work answer : ℕ) → Refusal → Type 0
Due text work answer too_long = (work < work_words) ⊎ ((answer < answer_words) ⊎ (8192 < length text))
Due text work answer (in_line fault line column) = Roomy work answer × (read_text text ≡ bad_line (record { fault = fault; column = column }) line)
Due text work answer large = Roomy work answer × Large text
