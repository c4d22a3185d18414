-- Any two results that meet the promise about a term's line are equal; and what of a line with a fault, or of one that is stuck, is
-- settled.
-- Assumes nothing.
use mathlib.Core.Path.{◌≡◌}
use mathlib.Core.List.{List, map}
use Prim.Native.Nat.{ℕ}
use Rattle.meaning.specs.Bytes.{Text}
use Rattle.slots.specs.declared.Term.{Term}
use Rattle.table.specs.Decoded.{name_of}
use Rattle.table.specs.Encoded.{term_words, term_for}
use Rattle.grammar.specs.Text.{Past}
use Rattle.grammar.specs.Forms.{Line}
use Rattle.grammar.specs.Faults.{term_said, term_fault}
use Rattle.std.specs.Prelude.{None, Ok, Err}
use Rattle.words.specs.Steps.{Reading}
use Rattle.lists.specs.Lists.{overlaid}
use Rattle.tails.specs.declared.TermLine.{TermLine}
use Rattle.tails.proofs.Uniqueness.{took, Meets, seen-unique, term_seen}
use Rattle.forms.specs.Terms.{TermRead, TermAnswer}

module _ (text : Text) (due : Past Line) (before : List ℕ) (words : List Text) (equations n : ℕ) where
  abbrev made : Line → Term
  made l = term_for n (term_said words l)

  abbrev stores : Line → List ℕ
  stores l = overlaid (term_words (term_said words l)) before

  term-meets : (after : List ℕ) (r : Reading TermLine) → TermRead words equations n text due before after r
      → Meets due made (term_fault words equations n) stores after (term_seen text r)
  unfolding Meets
  term-meets after (Ok t) p = record { line = p.line; says = p.says; made = p.term; found = p.faults; stored = p.stored }
  term-meets after (Err s) p = p.0

  read-unique : (after₁ after₂ : List ℕ) (r s : Reading TermLine)
      → TermRead words equations n text due before after₁ r
      → TermRead words equations n text due before after₂ s
      → (term_seen text r ≡ term_seen text s) × ((x : Term) (rest : Text) → term_seen text r ≡ took x None rest → after₁ ≡ after₂)
  read-unique after₁ after₂ r s p q =
      seen-unique due made (term_fault words equations n) stores after₁ after₂ (term_seen text r) (term_seen text s)
      (term-meets after₁ r p) (term-meets after₂ s q)

module _ (names : List ℕ) (text : Text) (before after₁ after₂ : List ℕ) where
  pub term-unique : (equations n : ℕ) (r s : Reading TermLine)
      → TermAnswer names equations n text before after₁ r
      → TermAnswer names equations n text before after₂ s
      → (term_seen text r ≡ term_seen text s) × ((x : Term) (rest : Text) → term_seen text r ≡ took x None rest → after₁ ≡ after₂)
  term-unique equations n r s p q = read-unique text _ before (map (name_of 8) names) equations n after₁ after₂ r s p q
