-- Reading a whole description: its lines in their fixed order, the first bad line deciding.
-- Assumes nothing.
use Rattle.std.specs.Prelude.{Bool, true, false, ◌&&◌, not, List, [], ◌∷◌, ◌++◌, ℕ, zero, suc, ◌-◌, leb, ltb, length}
use Rattle.meaning.specs.Bytes.{Text, ascii}
use Rattle.meaning.specs.Descriptions.{Term, Order, Description}
use Rattle.meaning.specs.Answers.{Fault, form, name, range}
use Rattle.grammar.specs.Text.{Past, past, stuck, same_text}
use Rattle.grammar.specs.Forms.{count_line, name_line, term_line, order_line}
use Rattle.grammar.specs.Faults.{Found, fine, fault, name_number, term_said, term_fault, order_said, order_fault}

-- What a line makes of that which was read before it, with the text after it, or its fault and the place where that begins. A line that
-- has no form is 2, whatever else it is, at the byte with which no line due there goes on; so is one that lacks its LF, which belongs to
-- the form.
pub data Taken (A : Type 0) : Type 0 where
  taken : A → Text → Taken A
  faulty : Fault → (from : ℕ) → Taken A

abbrev pub taken_if : {A : Type 0} → Bool → Fault → (from : ℕ) → A → Text → Taken A
taken_if true f from a rest = taken a rest
taken_if false f from a rest = faulty f from

abbrev pub taken_unless : {A : Type 0} → Found → A → Text → Taken A
taken_unless fine a rest = taken a rest
taken_unless (fault f from) a rest = faulty f from

abbrev pub formed : {A B : Type 0} → Past A → (A → Text → Taken B) → Taken B
formed (past a rest) f = f a rest
formed (stuck r) f = faulty form (length r)

-- A number that passes a test: a count, or the number of a term.
unfoldable pub take_number : Text → (ℕ → Bool) → Fault → Text → Taken ℕ
take_number key test f s = formed (count_line key s) (λ n. taken_if (test n.it) f n.from n.it)

-- From 1 to 24 names; the limit is said where the text is read, so that what was read under another can be told.
abbrev pub names_up_to : (most : ℕ) → ℕ → Bool
names_up_to most n = leb 1 n && leb n most

abbrev pub names_in_range : ℕ → Bool
names_in_range n = names_up_to 24 n

abbrev pub equations_in_range : ℕ → Bool
equations_in_range n = leb n 16

abbrev pub terms_in_range : ℕ → Bool
terms_in_range n = leb 1 n && leb n 96

-- A name is no earlier one, and none of the words tau, none and all.
unfoldable pub is_free : List Text → Text → Bool
is_free words w =
    not (ltb (name_number words w) (length words)) && not (same_text w (ascii "tau")) && not (same_text w (ascii "none")) && not (same_text w (ascii "all"))

unfoldable pub take_name : List Text → Text → Taken (List Text)
take_name words s = formed (name_line s) (λ w. taken_if (is_free words w.it) name w.from (words ++ (w.it ∷ [])))

unfoldable pub take_term : List Text → ℕ → List Term → Text → Taken (List Term)
take_term words equations terms s =
    formed (term_line s) (λ l. taken_unless (term_fault words equations (length terms) l) (terms ++ (term_said words l ∷ [])))

unfoldable pub take_body : ℕ → List ℕ → Text → Taken (List ℕ)
take_body terms bodies s = formed (count_line (ascii "equation=") s) (λ t. taken_if (ltb t.it terms) range t.from (bodies ++ (t.it ∷ [])))

unfoldable pub take_order : List Text → Text → Taken Order
take_order words s = formed (order_line s) (λ l. taken_unless (order_fault words l) (order_said words l))

-- A line's fault with its column: places count from 1 at the line's first byte.
pub record Flaw : Type 0 where
  pub fault : Fault
  pub column : ℕ

abbrev pub flaw_in : Text → Fault → (from : ℕ) → Flaw
flaw_in line f from = record { fault = f; column = suc (length line - from) }

-- How far reading has come: what was read, the number of the next line and the text from there on; or the first bad line's fault
-- with its column, and its number.
pub data Walk (A : Type 0) : Type 0 where
  reached : A → (line : ℕ) → Text → Walk A
  halted : Flaw → (line : ℕ) → Walk A

abbrev pub walk : {A B : Type 0} → Walk A → (A → ℕ → Text → Walk B) → Walk B
walk (reached a line s) g = g a line s
walk (halted f line) g = halted f line

-- one line, by its number and the text from it on
abbrev pub after_line : {A : Type 0} → ℕ → Text → Taken A → Walk A
after_line line s (taken a rest) = reached a (suc line) rest
after_line line s (faulty f from) = halted (flaw_in s f from) line

abbrev pub one_line : {A : Type 0} → (Text → Taken A) → ℕ → Text → Walk A
one_line take line s = after_line line s (take s)

-- So many lines that are read alike, each adding to what was read before.
unfoldable pub lines : {A : Type 0} → (A → Text → Taken A) → ℕ → A → ℕ → Text → Walk A
lines take zero a line s = reached a line s
lines take (suc more) a line s = walk (one_line (take a) line s) (lines take more)

-- What a text comes to: a description with its order; over 8,192 bytes, which are not looked at; or its first bad line.
pub data Reading : Type 0 where
  read : Description → Order → Reading
  overlong : Reading
  bad_line : Flaw → (line : ℕ) → Reading

-- Bytes after the last line are a fault of the line that they begin, at the first of them.
abbrev pub at_first : Flaw
at_first = record { fault = form; column = 1 }

abbrev pub all_read : {A : Type 0} → (A → Reading) → Walk A → Reading
all_read make (reached a line []) = make a
all_read make (reached a line (b ∷ s)) = bad_line at_first line
all_read make (halted f line) = bad_line f line

pub record Whole : Type 0 where
  pub given : Description
  pub order : Order

-- The lines in their fixed order: the number of names, the names, the numbers of equations and terms, the terms, the bodies, the root,
-- the order. Each section is followed by the next, and so is said after it: read from `whole_text` upwards.
abbrev pub from_order : Description → ℕ → Text → Walk Whole
from_order d line s = walk (one_line (take_order d.words) line s) (λ order line s. reached (record { given = d; order = order }) line s)

abbrev pub from_root : List Text → List Term → List ℕ → ℕ → ℕ → Text → Walk Whole
from_root words terms bodies t line s =
    walk (one_line (take_number (ascii "root=") (λ r. ltb r t) range) line s) (λ root line s.
    from_order (record { words = words; terms = terms; bodies = bodies; root = root }) line s)

abbrev pub from_bodies : List Text → List Term → ℕ → ℕ → ℕ → Text → Walk Whole
from_bodies words terms e t line s = walk (lines (take_body t) e [] line s) (λ bodies line s. from_root words terms bodies t line s)

abbrev pub from_terms : List Text → ℕ → ℕ → ℕ → Text → Walk Whole
from_terms words e t line s = walk (lines (take_term words e) t [] line s) (λ terms line s. from_bodies words terms e t line s)

abbrev pub from_counts : List Text → ℕ → Text → Walk Whole
from_counts words line s =
    walk (one_line (take_number (ascii "equations=") equations_in_range form) line s) (λ e line s.
    walk (one_line (take_number (ascii "terms=") terms_in_range form) line s) (λ t line s.
    from_terms words e t line s))

abbrev pub from_names : ℕ → ℕ → Text → Walk Whole
from_names n line s = walk (lines take_name n [] line s) (λ words line s. from_counts words line s)

abbrev pub whole_up_to : (most : ℕ) → Text → Walk Whole
whole_up_to most text = walk (one_line (take_number (ascii "names=") (names_up_to most) form) 1 text) (λ n line s. from_names n line s)

unfoldable pub whole_text : Text → Walk Whole
whole_text text = whole_up_to 24 text

abbrev pub described : Walk Whole → Reading
described = all_read (λ w. read w.given w.order)

unfoldable pub read_text : Text → Reading
read_text text = elim (ltb 8192 (length text)) [ true ↦ overlong | false ↦ described (whole_text text) ]

-- the same under another limit of names
unfoldable pub read_up_to : (most : ℕ) → Text → Reading
read_up_to most text = elim (ltb 8192 (length text)) [ true ↦ overlong | false ↦ described (whole_up_to most text) ]
