-- Numbers and labels as they are written: cases that the checker computes, and a label's parts, name by name.
-- Assumes nothing.
use mathlib.Core.Path.{◌≡◌, refl}
use mathlib.Core.List.{List, [], ◌∷◌}
use Prim.Native.Nat.{ℕ}
use borrow.Author.Tests.{eq-eqb, ne_eqb}
use Rattle.meaning.specs.Bytes.{Text, ascii}
use Rattle.meaning.specs.Labels.{Label}
use Rattle.grammar.specs.Marks.{digits, decimal, followed, joined_by, part_text, part_texts, label_text}

abbrev pub names : List Text
names = ascii "done" ∷ ascii "close" ∷ []

pub computed : (label_text names (15 ∷ 1 ∷ []) ≡ ascii "done:15.close:1") × (label_text names (0 ∷ 2 ∷ []) ≡ ascii "close:2")
    × (label_text names (0 ∷ 0 ∷ []) ≡ []) × (decimal 0 ≡ ascii "0") × (decimal 2049 ≡ ascii "2049")
unfolding part_texts joined_by followed digits
computed = (refl, refl, refl, refl, refl)

-- A name that does not occur has no part, and the part of any other is the first.
pub part_texts-zero : (w : Text) (ws : List Text) (x : ℕ) (a : Label) → x ≡ 0 → part_texts (w ∷ ws) (x ∷ a) ≡ part_texts ws a
unfolding part_texts
part_texts-zero w ws x a e = rw (eq-eqb x 0 e, part_texts)

pub part_texts-some : (w : Text) (ws : List Text) (x : ℕ) (a : Label) → (x ≡ 0 → ⊥) → part_texts (w ∷ ws) (x ∷ a) ≡ part_text w x ∷ part_texts ws a
unfolding part_texts
part_texts-some w ws x a h = rw (ne_eqb x 0 h, part_texts)
