-- What a writer of texts leaves in the area that is lent to it.
-- Assumes nothing.
use Rattle.std.specs.Prelude.{◌≡◌, true, false, Option, None, Some, ◌++◌, ℕ, leb, length, drop}
use Rattle.meaning.specs.Bytes.{Text}

-- An area with a text at its start; its further bytes stay.
abbrev pub with_start : Text → Text → Text
with_start s area = s ++ drop (length s) area

-- A text that fits was written: the area has it at its start, and its length was answered.
pub record Written (s before after : Text) (answer : ℕ) : Type 0 where
  pub area : after ≡ with_start s before
  pub size : answer ≡ length s

-- The whole text was written and its length answered; where it does not fit the area stayed as it was, and the answer was None.
abbrev pub area_with : Text → Text → Text
area_with s before = elim (leb (length s) (length before)) [ true ↦ with_start s before | false ↦ before ]

abbrev pub size_if_fits : Text → Text → Option ℕ
size_if_fits s before = elim (leb (length s) (length before)) [ true ↦ Some (length s) | false ↦ None ]

pub record WrittenOrNone (s before after : Text) (answer : Option ℕ) : Type 0 where
  pub area : after ≡ area_with s before
  pub size : answer ≡ size_if_fits s before

-- The same for C, which has no None: 0 was answered in its place (refusal 8, in the C call).
abbrev pub size_in : Text → Text → ℕ
size_in s before = elim (leb (length s) (length before)) [ true ↦ length s | false ↦ 0 ]

pub record Printed (s before after : Text) (answer : ℕ) : Type 0 where
  pub area : after ≡ area_with s before
  pub size : answer ≡ size_in s before
