-- Which description a table and its lists hold, over the entries that are used: the other words may be anything.
-- Assumes nothing.
use Rattle.std.specs.Prelude.{◌≡◌, List, map, ℕ, ◌*◌, ◌<◌, min, length, take, drop, get_or}
use Rattle.meaning.specs.Descriptions as D
use Rattle.table.specs.declared.Order.{Order}
use Rattle.table.specs.Encoded.{word_of, slot_of, term_words, order_words, order_for}

-- Where what stands: the numbers of names, equations and terms and the root in the first four words, then the names, the bodies and
-- the terms. So many entries, as a count among the first words says, from a place on; never more than there is room for.
abbrev pub entries_in : (count from most : ℕ) → List ℕ → List ℕ
entries_in count from most table = take (min (get_or table count 0) most) (drop from table)

abbrev pub names_in : List ℕ → List ℕ
names_in = entries_in 0 4 24

abbrev pub bodies_in : List ℕ → List ℕ
bodies_in = entries_in 1 28 16

abbrev pub slots_in : List ℕ → List ℕ
slots_in = entries_in 2 44 96

abbrev pub root_in : List ℕ → ℕ
root_in table = get_or table 3 0

-- The list of each term, in the 64 words of its number.
abbrev pub HoldsLists : D.Description → List ℕ → Type 0
HoldsLists d lists = (n : ℕ) → n < D.term_count d → take (length (term_words (D.term_at d n))) (drop (64 * n) lists) ≡ term_words (D.term_at d n)

pub record Holds (d : D.Description) (table lists : List ℕ) : Type 0 where
  pub named : get_or table 0 0 ≡ D.names d
  pub equated : get_or table 1 0 ≡ D.equations d
  pub counted : get_or table 2 0 ≡ D.term_count d
  pub rooted : root_in table ≡ d.root
  pub names : take (D.names d) (drop 4 table) ≡ map word_of d.words
  pub bodies : take (D.equations d) (drop 28 table) ≡ d.bodies
  pub terms : take (D.term_count d) (drop 44 table) ≡ map slot_of d.terms
  pub listed : HoldsLists d lists

-- An order, whose labels are the first of words of its own.
pub record HoldsOrder (o : D.Order) (order : Order) (listed : List ℕ) : Type 0 where
  pub ordered : order ≡ order_for o
  pub labels : take (length (order_words o)) listed ≡ order_words o
