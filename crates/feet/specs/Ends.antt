-- All lines after the terms, to the text's end: what is returned and left, where the names and the terms are known.
-- Assumes nothing.
use Rattle.std.specs.Prelude.{◌≡◌, List, map, ℕ, ◌≤◌, length, Result, Ok}
use Rattle.meaning.specs.Bytes.{Text}
use Rattle.meaning.specs.Descriptions as D
use Rattle.table.specs.Decoded.{name_of}
use Rattle.table.specs.Encoded.{order_for, order_words}
use Rattle.table.specs.Holding.{names_in}
use Rattle.lists.specs.Lists.{overlaid}
use Rattle.grammar.specs.Reading.{Walk, reached, Reading, read, overlong, bad_line, at_first, described, from_bodies}
use Rattle.faults.specs.CodedFaults.{flaw_for}
use Rattle.table.specs.declared.Order.{Order}
use Rattle.words.specs.declared.Taken.{Taken}
use Rattle.keyed.specs.declared.BadLine.{BadLine}
use Rattle.keyed.specs.Walks.{refusal}
use Rattle.sections.specs.Laying.{with_foot}
use Rattle.sections.specs.Sections.{Within, Roomed}
use Rattle.feet.specs.Feet.{Footing, foot_text}

-- The description goes on from the names and the terms. The bytes that the order's line took are returned: those behind the root's, to the
-- text's end.
pub record EndStored (words : List Text) (ts : List D.Term) (equations : ℕ) (due : Walk Footing) (d : D.Description) (o : D.Order)
    (table listed table' listed' : List ℕ) (r : Result (Taken Order) BadLine) : Type 0 where
  pub next : ℕ
  pub rest : Text
  pub rooted : reached (record { bodies = d.bodies; root = d.root }) next rest ≡ due
  pub answered : r ≡ Ok (record { value = order_for o; bytes = length rest })
  pub worded : d.words ≡ words
  pub termed : d.terms ≡ ts
  pub bodied : length d.bodies ≡ equations
  pub tabled : table' ≡ with_foot d.bodies d.root table
  pub ordered : listed' ≡ overlaid (order_words o) listed

-- After a bad line the order's words are touched no further than the longest order reaches.
pub record EndBad (r due : Result (Taken Order) BadLine) (listed listed' : List ℕ) : Type 0 where
  pub answered : r ≡ due
  pub ordered : Within 64 listed listed'

abbrev pub EndLeft : List Text → List D.Term → ℕ → Walk Footing → Reading → (table listed table' listed' : List ℕ) → Result (Taken Order) BadLine → Type 0
EndLeft words ts equations due (read d o) table listed table' listed' r = EndStored words ts equations due d o table listed table' listed' r
EndLeft words ts equations due overlong table listed table' listed' r = ⊥
EndLeft words ts equations due (bad_line f line) table listed table' listed' r = EndBad r (refusal (flaw_for f) line) listed listed'

pub record EndRead (text : Text) (line equations terms : ℕ) (table listed table' listed' : List ℕ) (r : Result (Taken Order) BadLine) : Type 0 where
  pub tabled : Within 140 table table'
  pub came : (words : List Text) (ts : List D.Term) → map (name_of 8) (names_in table) ≡ words
      → EndLeft words ts equations (foot_text equations terms line text) (described (from_bodies words ts equations terms line text))
      table listed table' listed' r

-- The room that they need: the first line comes after at most twenty-four names, three counts and 96 terms, and each body has its word.
abbrev pub EndRoom : (line equations table : ℕ) → Type 0
EndRoom line equations table = (line ≤ 124) × (equations ≤ 16) × (140 ≤ table)

-- Else all is refused as if the first line were bad, and the areas stay as they were.
pub record EndRefused (line : ℕ) (table listed table' listed' : List ℕ) (r : Result (Taken Order) BadLine) : Type 0 where
  pub answered : r ≡ refusal (flaw_for at_first) line
  pub tabled : table' ≡ table
  pub ordered : listed' ≡ listed

abbrev pub EndGiven : Text → (line equations terms : ℕ) → (table listed table' listed' : List ℕ) → Result (Taken Order) BadLine → Type 0
EndGiven text line equations terms table listed table' listed' r =
    Roomed (EndRoom line equations (length table)) (EndRead text line equations terms table listed table' listed' r)
    (EndRefused line table listed table' listed' r)
