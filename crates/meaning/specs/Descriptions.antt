-- Descriptions and orders (docs/FORMAT.md, "The lines" and "The terms").
-- Names, equations and terms are meant by their numbers; the words of the names are kept for the text.
-- Assumes nothing.
use Rattle.std.specs.Prelude.{List, ℕ, length, get_or}
use Rattle.meaning.specs.Bytes.{Text}
use Rattle.meaning.specs.Labels.{Label}

-- `a>b`
pub record Pair : Type 0 where
  pub left : ℕ
  pub right : ℕ

-- `label>name`
pub record Rule : Type 0 where
  pub left : Label
  pub right : ℕ

-- The last five kinds: one operand, and one list of that kind.
pub data Operator : Type 0 where
  block hide : List ℕ → Operator
  rename : List Pair → Operator
  comm : List Rule → Operator
  allow : List Label → Operator

pub data Term : Type 0 where
  act : ℕ → Term
  tau delta : Term
  ref sum cond : ℕ → Term
  choice ifelse seq merge lmerge sync : ℕ → ℕ → Term
  wrap : Operator → ℕ → Term

-- `order=all`, or the listed labels (`order=none` lists none)
pub data Order : Type 0 where
  all : Order
  only : List Label → Order

pub record Description : Type 0 where
  pub words : List Text
  pub terms : List Term
  pub bodies : List ℕ
  pub root : ℕ

-- how many names, terms and equations there are
abbrev pub names : Description → ℕ
names d = length d.words

abbrev pub term_count : Description → ℕ
term_count d = length d.terms

abbrev pub equations : Description → ℕ
equations d = length d.bodies

-- the term and the body of a number; a number that is out of range stands for a deadlock, and for no term
abbrev pub term_at : Description → ℕ → Term
term_at d t = get_or d.terms t delta

abbrev pub body_at : Description → ℕ → ℕ
body_at d e = get_or d.bodies e (term_count d)
