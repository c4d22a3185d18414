-- The lines before the terms: what they say, and what they leave in the table.
-- Assumes nothing.
use Rattle.std.specs.Prelude.{◌≡◌, List, [], ◌∷◌, map, ℕ, ◌+◌, ◌≤◌, length, Result}
use Rattle.meaning.specs.Bytes.{Text, ascii}
use Rattle.meaning.specs.Answers.{form}
use Rattle.table.specs.Decoded.{name_of}
use Rattle.table.specs.Encoded.{word_of}
use Rattle.grammar.specs.Reading.{take_number, names_in_range, equations_in_range, terms_in_range, take_name, Walk, reached, walk, at_first, one_line, lines}
use Rattle.faults.specs.CodedFaults.{flaw_for}
use Rattle.words.specs.declared.Taken.{Taken}
use Rattle.keyed.specs.declared.BadLine.{BadLine}
use Rattle.keyed.specs.Walks.{refusal}
use Rattle.sections.specs.Laying.{laid_at, with_counts}
use Rattle.sections.specs.Sections.{Passes, Comes, Within, Roomed}

-- What the lines say: the names, and how many equations and terms there are.
pub record Heading : Type 0 where
  pub words : List Text
  pub equations : ℕ
  pub terms : ℕ

-- The lines in their order; each is followed by the next, and so is said after it: read from `head_text` upwards.
abbrev pub head_terms : List Text → ℕ → ℕ → Text → Walk Heading
head_terms words e line s =
    walk (one_line (take_number (ascii "terms=") terms_in_range form) line s) (λ t line s.
    reached (record { words = words; equations = e; terms = t }) line s)

abbrev pub head_counts : List Text → ℕ → Text → Walk Heading
head_counts words line s =
    walk (one_line (take_number (ascii "equations=") equations_in_range form) line s) (λ e line s. head_terms words e line s)

abbrev pub head_names : ℕ → ℕ → Text → Walk Heading
head_names n line s = walk (lines take_name n [] line s) (λ words line s. head_counts words line s)

unfoldable pub head_text : Text → Walk Heading
head_text text = walk (one_line (take_number (ascii "names=") names_in_range form) 1 text) (λ n line s. head_names n line s)

-- Names that fit their words.
abbrev pub Packed : List Text → Type 0
Packed words = map (name_of 8) (map word_of words) ≡ words

-- Names in their words of the table.
pub record NamesLeft (named : ℕ) (table table' : List ℕ) (words : List Text) : Type 0 where
  pub counted : length words ≡ named
  pub packed : Packed words
  pub laid : table' ≡ laid_at 4 (map word_of words) table

pub record NamesRead (text : Text) (named : ℕ) (table table' : List ℕ) (r : Result ℕ BadLine) : Type 0 where
  pub tabled : Within 140 table table'
  pub came : Passes text (lines take_name named [] 2 text) (λ words. 2 + named) (NamesLeft named table table') r

-- The counts, after any so many names; the number of terms is returned.
pub record CountsLeft (n : ℕ) (words : List Text) (table table' : List ℕ) (v : ℕ) (h : Heading) : Type 0 where
  pub returned : v ≡ h.terms
  pub named : h.words ≡ words
  pub equated : h.equations ≤ 16
  pub counted : h.terms ≤ 96
  pub laid : table' ≡ laid_at 0 (n ∷ h.equations ∷ h.terms ∷ []) table

pub record CountsRead (text : Text) (named : ℕ) (table table' : List ℕ) (r : Result (Taken ℕ) BadLine) : Type 0 where
  pub tabled : Within 140 table table'
  pub came : (words : List Text) → Comes text (head_counts words (2 + named) text) (λ h. 4 + named) (CountsLeft named words table table') r

-- All of them.
pub record HeadLeft (table table' : List ℕ) (v : ℕ) (h : Heading) : Type 0 where
  pub returned : v ≡ h.terms
  pub named : length h.words ≤ 24
  pub packed : Packed h.words
  pub equated : h.equations ≤ 16
  pub counted : h.terms ≤ 96
  pub laid : table' ≡ with_counts h.words h.equations h.terms table

pub record HeadRead (text : Text) (table table' : List ℕ) (r : Result (Taken ℕ) BadLine) : Type 0 where
  pub tabled : Within 140 table table'
  pub came : Comes text (head_text text) (λ h. 4 + length h.words) (HeadLeft table table') r

-- A table that is too short is refused as if the first line were bad, and stays as it was.
abbrev pub HeadGiven : Text → (table table' : List ℕ) → Result (Taken ℕ) BadLine → Type 0
HeadGiven text table table' r = Roomed (140 ≤ length table) (HeadRead text table table' r) ((r ≡ refusal (flaw_for at_first) 1) × (table' ≡ table))
