-- What the functions that join the sections leave. Only private functions cite this: no public contract rests on it.
-- Assumes nothing.
use Rattle.std.specs.Prelude.{◌≡◌, List, map, ℕ, ◌+◌, length, Result}
use Rattle.meaning.specs.Bytes.{Text}
use Rattle.meaning.specs.Descriptions as D
use Rattle.table.specs.Decoded.{name_of}
use Rattle.table.specs.Encoded.{order_words}
use Rattle.table.specs.Holding.{names_in, bodies_in}
use Rattle.lists.specs.Lists.{overlaid}
use Rattle.grammar.specs.Reading.{Reading, read, overlong, bad_line, described, from_terms}
use Rattle.table.specs.declared.Order.{Order}
use Rattle.reading.specs.declared.ReadError.{ReadError}
use Rattle.sections.specs.Laying.{table_after, with_terms, with_foot, lists_over}
use Rattle.sections.specs.Sections.{Within}
use Rattle.reading.specs.Stored.{Coming, comes, crowded, lines_in, read_for}

-- The lines from the terms' on, where the names are known. After a bad line the order's words are touched no further than the longest
-- order reaches.
pub record TermsStored (words : List Text) (equations count : ℕ) (d : D.Description) (o : D.Order) (table lists listed table' lists' listed' : List ℕ)
    : Type 0 where
  pub worded : d.words ≡ words
  pub bodied : length d.bodies ≡ equations
  pub counted : length d.terms ≡ count
  pub tabled : table' ≡ with_foot d.bodies d.root (with_terms d.terms table)
  pub listing : lists' ≡ lists_over 0 d.terms lists
  pub ordered : listed' ≡ overlaid (order_words o) listed

abbrev pub TermsLeft : List Text → ℕ → ℕ → Reading → (table lists listed table' lists' listed' : List ℕ) → Type 0
TermsLeft words equations count (read d o) table lists listed table' lists' listed' =
    TermsStored words equations count d o table lists listed table' lists' listed'
TermsLeft words equations count overlong table lists listed table' lists' listed' = ⊥
TermsLeft words equations count (bad_line f line) table lists listed table' lists' listed' = Within 64 listed listed'

pub record TermsDue (text : Text) (count : ℕ) (table lists listed table' lists' listed' : List ℕ) (r : Result Order ReadError) : Type 0 where
  pub tabled : Within 140 table table'
  pub listing : Within 6144 lists lists'
  pub result : (words : List Text) → map (name_of 8) (names_in table) ≡ words
      → r ≡ read_for (comes (described (from_terms words (length (bodies_in table)) count (4 + length (names_in table)) text)))
  pub left : (words : List Text) → map (name_of 8) (names_in table) ≡ words
      → TermsLeft words (length (bodies_in table)) count (described (from_terms words (length (bodies_in table)) count (4 + length (names_in table)) text))
      table lists listed table' lists' listed'

-- All lines.
abbrev pub LinesLeft : Coming → (table lists listed table' lists' listed' : List ℕ) → Type 0
LinesLeft (comes (read d o)) table lists listed table' lists' listed' =
    (table' ≡ table_after d table) × (lists' ≡ lists_over 0 d.terms lists) × (listed' ≡ overlaid (order_words o) listed)
LinesLeft (comes overlong) table lists listed table' lists' listed' = ⊥
LinesLeft (comes (bad_line f line)) table lists listed table' lists' listed' = Within 64 listed listed'
LinesLeft crowded table lists listed table' lists' listed' = Within 64 listed listed'

pub record LinesRead (text : Text) (table lists listed table' lists' listed' : List ℕ) (r : Result Order ReadError) : Type 0 where
  pub tabled : Within 140 table table'
  pub listing : Within 6144 lists lists'
  pub result : r ≡ read_for (lines_in (length lists) text)
  pub left : LinesLeft (lines_in (length lists) text) table lists listed table' lists' listed'
