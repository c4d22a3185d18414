-- What reading promises for every text and for areas of any lengths.
-- Assumes nothing.
use Rattle.std.specs.Prelude.{◌≡◌, Bool, ◌||◌, List, ℕ, ◌*◌, leb, ltb, length, Result, Ok, Err}
use Rattle.meaning.specs.Bytes.{Text}
use Rattle.meaning.specs.Rounds.{pick}
use Rattle.areas.specs.Areas.{zeroed}
use Rattle.table.specs.declared.Order.{Order}
use Rattle.table.specs.Encoded.{order_for, order_words}
use Rattle.lists.specs.Lists.{overlaid}
use Rattle.grammar.specs.Reading.{Walk, reached, halted, Reading, read, overlong, bad_line, described, whole_text}
use Rattle.reading.specs.declared.ReadError.{ReadError}
use Rattle.reading.specs.declared.ReadError.TheVariants.{NoRoom, TooLong, Bad}
use Rattle.sections.specs.Laying.{table_after, lists_over}
pub use Rattle.faults.specs.CodedFaults.{flaw_for}
use Rattle.heads.specs.Heads.{Heading, head_text}

-- What a text comes to where there are so many words for lists: what it reads as; or crowded, where the lines before the terms are
-- right and there is no room for the lists of so many terms.
pub data Coming : Type 0 where
  comes : Reading → Coming
  crowded : Coming

abbrev pub unless_crowded : (room : ℕ) → Walk Heading → Reading → Coming
unless_crowded room (halted f line) r = comes r
unless_crowded room (reached h line s) r = pick (leb (64 * h.terms) room) (comes r) crowded

unfoldable pub lines_in : (room : ℕ) → Text → Coming
lines_in room text = unless_crowded room (head_text text) (described (whole_text text))

-- Refusal 1: a text that is too long is not looked at, and so is every text where the table or the order has too few words.
abbrev pub too_much : (text table listed : ℕ) → Bool
too_much text table listed = ltb 8192 text || ltb table 140 || ltb listed 64

unfoldable pub read_in : Text → (table lists listed : ℕ) → Coming
read_in text table lists listed = pick (too_much (length text) table listed) (comes overlong) (lines_in lists text)

-- What is returned.
abbrev pub read_for : Coming → Result Order ReadError
read_for (comes (read d o)) = Ok (order_for o)
read_for (comes overlong) = Err TooLong
read_for (comes (bad_line f line)) = Err (Bad (record { flaw = flaw_for f; line = line }))
read_for crowded = Err NoRoom

-- What the areas hold afterwards: the description over what was there; the same as before; or 0.
abbrev pub table_for : Coming → List ℕ → List ℕ
table_for (comes (read d o)) table = table_after d table
table_for (comes overlong) table = table
table_for (comes (bad_line f line)) table = zeroed 140 table
table_for crowded table = zeroed 140 table

abbrev pub lists_for : Coming → List ℕ → List ℕ
lists_for (comes (read d o)) lists = lists_over 0 d.terms lists
lists_for (comes overlong) lists = lists
lists_for (comes (bad_line f line)) lists = zeroed 6144 lists
lists_for crowded lists = zeroed 6144 lists

abbrev pub listed_for : Coming → List ℕ → List ℕ
listed_for (comes (read d o)) listed = overlaid (order_words o) listed
listed_for (comes overlong) listed = listed
listed_for (comes (bad_line f line)) listed = zeroed 64 listed
listed_for crowded listed = zeroed 64 listed

pub record Stored (text : Text) (table lists listed table' lists' listed' : List ℕ) (r : Result Order ReadError) : Type 0 where
  pub result : r ≡ read_for (read_in text (length table) (length lists) (length listed))
  pub tabled : table' ≡ table_for (read_in text (length table) (length lists) (length listed)) table
  pub listing : lists' ≡ lists_for (read_in text (length table) (length lists) (length listed)) lists
  pub ordered : listed' ≡ listed_for (read_in text (length table) (length lists) (length listed)) listed
