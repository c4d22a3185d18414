-- The whole text: the lines before the terms, and those from the terms on.
-- Assumes nothing.
use mathlib.Core.Path.{◌≡◌, refl, sym, ap, ◌∙◌}
use mathlib.Core.List.{List, []}
use Prim.Native.Nat.{ℕ, ◌*◌, ◌<◌, ◌≤◌}
use borrow.Author.Tests.{le-leb, lt-leb}
use Rattle.std.specs.Prelude.{Result, Err}
use Rattle.meaning.specs.Bytes.{Text, ascii}
use Rattle.meaning.specs.Answers.{form}
use Rattle.faults.specs.CodedFaults.{flaw_of}
use Rattle.faults.proofs.Uniqueness.{flaw-back}
use Rattle.grammar.specs.Reading.{take_number, names_in_range, equations_in_range, terms_in_range, take_name, Walk, reached, halted, walk, one_line, lines}
use Rattle.grammar.specs.Reading as M
use Rattle.grammar.specs.Reading.{Reading, bad_line, Whole, from_terms, from_counts, from_names, whole_text, described}
use Rattle.sections.proofs.Joins.{walk-walk}
use Rattle.heads.specs.Heads.{Heading, head_terms, head_counts, head_names, head_text}
use Rattle.table.specs.declared.Order.{Order}
use Rattle.keyed.specs.declared.BadLine.{BadLine}
use Rattle.reading.specs.Stored.{comes, crowded, lines_in, read_for}
use Rattle.reading.specs.declared.ReadError.{ReadError}
use Rattle.reading.specs.declared.ReadError.TheVariants.{Bad}

-- The lines before the terms are lines of the whole text.
abbrev pub on_terms : Heading → ℕ → Text → Walk Whole
on_terms h line s = from_terms h.words h.equations h.terms line s

module _ (words : List Text) where
  terms-join : (e line : ℕ) (s : Text) → walk (head_terms words e line s) on_terms
      ≡ walk (one_line (take_number (ascii "terms=") terms_in_range form) line s) (λ t line s. from_terms words e t line s)
  terms-join e line s =
      walk-walk (one_line (take_number (ascii "terms=") terms_in_range form) line s)
      (λ t line s. reached (record { words = words; equations = e; terms = t }) line s) on_terms (λ t line s. from_terms words e t line s)
      (λ t line s. refl)

  counts-join : (line : ℕ) (s : Text) → walk (head_counts words line s) on_terms ≡ from_counts words line s
  counts-join line s =
      walk-walk (one_line (take_number (ascii "equations=") equations_in_range form) line s) (λ e line s. head_terms words e line s) on_terms
      (λ e line s. walk (one_line (take_number (ascii "terms=") terms_in_range form) line s) (λ t line s. from_terms words e t line s)) terms-join

names-join : (n line : ℕ) (s : Text) → walk (head_names n line s) on_terms ≡ from_names n line s
names-join n line s =
    walk-walk (lines take_name n [] line s) (λ words line s. head_counts words line s) on_terms (λ words line s. from_counts words line s) counts-join

pub head-joins : (text : Text) → walk (head_text text) (λ h line s. from_terms h.words h.equations h.terms line s) ≡ whole_text text
unfolding head_text whole_text
head-joins text =
    walk-walk (one_line (take_number (ascii "names=") names_in_range form) 1 text) (λ n line s. head_names n line s) on_terms (λ n line s. from_names n line s)
    names-join

-- what is returned of a bad line
pub bad-result : (b : BadLine) {x : Reading} → bad_line (flaw_of b.flaw) b.line ≡ x → ◌≡◌ {A = Result Order ReadError} (Err (Bad b)) (read_for (comes x))
bad-result b q =
    ap (λ g. Err (Bad (record { flaw = g; line = b.line }))) (sym (flaw-back b.flaw)) ∙ ap (λ x. read_for (comes x)) q

-- All lines, by what those before the terms come to.
module _ (text : Text) (room : ℕ) where
  pub lines-halt : {f : M.Flaw} {line : ℕ} → halted f line ≡ head_text text → comes (bad_line f line) ≡ lines_in room text
  unfolding lines_in
  lines-halt q = rw (← head-joins text, ← q)

  module _ {h : Heading} {line : ℕ} {s : Text} (q : reached h line s ≡ head_text text) where
    pub lines-crowd : room < 64 * h.terms → crowded ≡ lines_in room text
    unfolding lines_in
    lines-crowd l = rw (← q, lt-leb (64 * h.terms) room l)

    pub lines_fit : 64 * h.terms ≤ room → comes (described (from_terms h.words h.equations h.terms line s)) ≡ lines_in room text
    unfolding lines_in
    lines_fit l = rw (← head-joins text, ← q, le-leb (64 * h.terms) room l)
