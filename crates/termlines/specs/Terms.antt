-- The lines of terms: what they leave in the table and in the lists.
-- Assumes nothing.
use Rattle.std.specs.Prelude.{◌≡◌, List, [], ◌∷◌, ◌++◌, map, ℕ, suc, ◌+◌, ◌*◌, ◌≤◌, length, Result}
use Rattle.meaning.specs.Bytes.{Text}
use Rattle.meaning.specs.Descriptions as D
use Rattle.table.specs.Decoded.{name_of}
use Rattle.table.specs.Encoded.{slot_of, term_words}
use Rattle.table.specs.Holding.{names_in}
use Rattle.lists.specs.Lists.{overlaid}
use Rattle.grammar.specs.Reading.{take_term, at_first, one_line, lines}
use Rattle.faults.specs.CodedFaults.{flaw_for}
use Rattle.words.specs.declared.Taken.{Taken}
use Rattle.keyed.specs.declared.BadLine.{BadLine}
use Rattle.keyed.specs.Walks.{refusal}
use Rattle.sections.specs.Laying.{with_terms, lists_over}
use Rattle.sections.specs.Sections.{Passes, Comes, Within, Roomed}

-- One term more, packed in the word that is returned, its list over the start of its words, of which there are enough.
pub record TermLeft (terms : List D.Term) (list list' : List ℕ) (w : ℕ) (all : List D.Term) : Type 0 where
  pub term : D.Term
  pub more : all ≡ terms ++ (term ∷ [])
  pub kept : w ≡ slot_of term
  pub fits : length (term_words term) ≤ 64
  pub stored : list' ≡ overlaid (term_words term) list

-- after any terms before it, of which the line asks no more than their number
pub record TermRead (text : Text) (line : ℕ) (names : List ℕ) (equations n : ℕ) (list list' : List ℕ) (r : Result (Taken ℕ) BadLine) : Type 0 where
  pub long : length list' ≡ length list
  pub came : (terms : List D.Term) → n ≡ length terms
      → Comes text (one_line (take_term (map (name_of 8) names) equations terms) line text) (λ all. suc line) (TermLeft terms list list') r

-- All terms, in their words of the table and of the lists.
pub record TermsLeft (count : ℕ) (table lists table' lists' : List ℕ) (terms : List D.Term) : Type 0 where
  pub counted : length terms ≡ count
  pub laid : table' ≡ with_terms terms table
  pub listed : lists' ≡ lists_over 0 terms lists

pub record TermsRead (text : Text) (line equations count : ℕ) (table lists table' lists' : List ℕ) (r : Result ℕ BadLine) : Type 0 where
  pub tabled : Within 140 table table'
  pub listing : Within 6144 lists lists'
  pub came : (words : List Text) → map (name_of 8) (names_in table) ≡ words
      → Passes text (lines (take_term words equations) count [] line text) (λ terms. line + count) (TermsLeft count table lists table' lists') r

-- The room that they need: the first line comes after at most twenty-four names and three counts, and each term has its word and its list's words.
abbrev pub TermsRoom : (line count : ℕ) → (table lists : List ℕ) → Type 0
TermsRoom line count table lists = (line ≤ 28) × (count ≤ 96) × (140 ≤ length table) × (64 * count ≤ length lists)

-- Else all is refused as if the first line were bad, and the areas stay as they were.
pub record TermsRefused (line : ℕ) (table lists table' lists' : List ℕ) (r : Result ℕ BadLine) : Type 0 where
  pub answered : r ≡ refusal (flaw_for at_first) line
  pub tabled : table' ≡ table
  pub listing : lists' ≡ lists

abbrev pub TermsGiven : Text → (line equations count : ℕ) → (table lists table' lists' : List ℕ) → Result ℕ BadLine → Type 0
TermsGiven text line equations count table lists table' lists' r =
    Roomed (TermsRoom line count table lists) (TermsRead text line equations count table lists table' lists' r)
    (TermsRefused line table lists table' lists' r)
