-- Texts that list no more than the runs of what they describe show (docs/EXACT.md).
-- Assumes nothing.
use Rattle.std.specs.Prelude.{◌≡◌, Bool, false}
use Rattle.meaning.specs.Bytes.{Text}
use Rattle.meaning.specs.Descriptions.{Order, Description}
use Rattle.meaning.specs.Exact.{OfExactKinds, are_exact_terms}
use Rattle.grammar.specs.Reading.{Reading, read, overlong, bad_line, read_text}

-- A text that is read as a description of the exact kinds.
pub record ExactText (text : Text) : Type 0 where
  pub given : Description
  pub order : Order
  pub reads : read_text text ≡ read given order
  pub kinds : OfExactKinds given

-- The same as a test.
abbrev pub is_exact_reading : Reading → Bool
is_exact_reading (read d o) = are_exact_terms d.terms
is_exact_reading overlong = false
is_exact_reading (bad_line f line) = false

unfoldable pub is_exact_text : Text → Bool
is_exact_text text = is_exact_reading (read_text text)
