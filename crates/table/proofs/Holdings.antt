-- What stands where in a table that holds a description.
-- Assumes nothing.
use mathlib.Core.Path.{◌≡◌, refl, ap, ◌∙◌}
use mathlib.Core.List.{List, [], ◌∷◌, map}
use Prim.Native.Nat.{ℕ, zero, suc, ◌≤◌, ◌<◌, min}
use native.Mathlib.Omega.{arith}
use lib.ListN.{length, get_or, take, drop, get_or-map}
use Rattle.meaning.specs.Descriptions as D
use Rattle.meaning.specs.Legal.{Legal}
use Rattle.meaning.proofs.Least.{term-legal}
use Rattle.slots.specs.Packing.{word_term}
use Rattle.table.specs.Encoded.{word_of, term_for, slot_of}
use Rattle.table.specs.Holding.{entries_in, names_in, bodies_in, slots_in, Holds}
use Rattle.table.proofs.PackedTerms.{term-back}

-- as many entries as there are, where there is room for them
entries-whole : (count from most n : ℕ) (table : List ℕ) → get_or table count 0 ≡ n → n ≤ most → entries_in count from most table ≡ take n (drop from table)
entries-whole count from most n table e few =
    let m : min (get_or table count 0) most ≡ n = omega arith in
    ap (λ (k : ℕ). take k (drop from table)) m

module _ {d : D.Description} {table lists : List ℕ} (h : Holds d table lists) where
  pub names-held : D.names d ≤ 24 → names_in table ≡ map word_of d.words
  names-held few = entries-whole 0 4 24 (D.names d) table h.named few ∙ h.names

  pub bodies-held : D.equations d ≤ 16 → bodies_in table ≡ d.bodies
  bodies-held few = entries-whole 1 28 16 (D.equations d) table h.equated few ∙ h.bodies

  pub slots-held : D.term_count d ≤ 96 → slots_in table ≡ map slot_of d.terms
  slots-held few = entries-whole 2 44 96 (D.term_count d) table h.counted few ∙ h.terms

-- The word of a term and the term of the word, past the last term too; and the body of an equation.
pub slot-of : (d : D.Description) (n : ℕ) → get_or (map slot_of d.terms) n 0 ≡ slot_of (D.term_at d n)
slot-of d n = get_or-map slot_of d.terms n D.delta

pub term_of_lem : (d : D.Description) (o : D.Order) (n : ℕ) → Legal d o → n < D.term_count d
    → word_term n (get_or (map slot_of d.terms) n 0) ≡ term_for n (D.term_at d n)
term_of_lem d o n l h =
    let few = l.terms_count.1 in
    ap (word_term n) (slot-of d n) ∙ term-back d l.name_count.1 l.equation_count n (omega arith) n (D.term_at d n) (term-legal d o l n)

pub body_of : (d : D.Description) (e : ℕ) → e < D.equations d → get_or d.bodies e 0 ≡ D.body_at d e
body_of d e h = same-default d.bodies e h
  where
    same-default : (l : List ℕ) (i : ℕ) → i < length l → get_or l i 0 ≡ get_or l i (D.term_count d)
    same-default [] i h = absurd (omega arith)
    same-default (x ∷ l) zero h = refl
    same-default (x ∷ l) (suc i) h = same-default l i (omega arith)
