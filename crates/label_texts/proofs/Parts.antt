-- The parts of a label: each behind those before it, and how long they are.
-- Assumes nothing.
use mathlib.Core.Path.{◌≡◌, refl, sym, ap, ◌∙◌}
use mathlib.Core.Bool.{true, false}
use mathlib.Core.List.{List, [], ◌∷◌, ◌++◌}
use Prim.Native.Nat.{ℕ, zero, suc, ◌+◌, ◌-◌, ◌/◌, ◌%◌, ◌≤◌, ◌<◌}
use native.Mathlib.Nat.{add-zero}
use native.Mathlib.Numerals.{add-one}
use native.Mathlib.Omega.{arith}
use native.Mathlib.Decide.{ℕ_discrete}
use borrow.Author.Tests.{eq-eqb, ne_eqb}
use lib.Dec.{eqb}
use lib.ListN.{length, drop, get_or, length-append}
use lib.Seq.{drop-cons}
use Rattle.meaning.specs.Bytes.{Text}
use Rattle.meaning.specs.Labels.{Label, label_of}
use Rattle.table.specs.Decoded.{name_of}
use Rattle.grammar.specs.Forms.{dot, colon}
use Rattle.grammar.specs.Marks.{decimal, joined_by, followed, part_text, part_texts}
use Rattle.grammar.specs.Areas.{Written}
use Rattle.grammar.proofs.Marks.{part_texts-zero, part_texts-some}
use Rattle.label_texts.specs.Packed.{name_texts}
use Rattle.label_texts.specs.Steps.{next_text}
use Rattle.grammar.proofs.Underway.{Underway, lent, back, underway-step, underway-end, next-room}

pub length_part : (word : Text) (times : ℕ) → length (part_text word times) ≡ length word + 1 + length (decimal times)
length_part word times = omega (arith, length-append word (colon ∷ decimal times))

-- What is to come of a label of which so many bytes are written.
unfoldable pub to_come : ℕ → List Text → Text
to_come written ts = elim (eqb written 0) [ true ↦ joined_by dot ts | false ↦ followed dot ts ]

to_come-some : (written : ℕ) (ts : List Text) → (written ≡ 0 → ⊥) → to_come written ts ≡ followed dot ts
unfolding to_come
to_come-some written ts h = rw (ne_eqb written 0 h, to_come)

to_come-none : (written : ℕ) (ts : List Text) → written ≡ 0 → to_come written ts ≡ joined_by dot ts
unfolding to_come
to_come-none written ts e = rw (eq-eqb written 0 e, to_come)

pub to_come-nil : (written : ℕ) → to_come written [] ≡ []
unfolding joined_by followed
to_come-nil written =
    elim (ℕ_discrete written 0) [ yes e ↦ to_come-none written [] e | no d ↦ to_come-some written [] d ]

-- The three cases of a next part.
pub next-absent : (written : ℕ) (w : Text) (x : ℕ) → x ≡ 0 → next_text written w x ≡ []
unfolding next_text
next-absent written w x e = rw (eq-eqb x 0 e, next_text)

pub next-first : (written : ℕ) (w : Text) (x : ℕ) → (x ≡ 0 → ⊥) → written ≡ 0 → next_text written w x ≡ part_text w x
unfolding next_text
next-first written w x h e = rw (ne_eqb x 0 h, eq-eqb written 0 e, next_text)

pub next-later : (written : ℕ) (w : Text) (x : ℕ) → (x ≡ 0 → ⊥) → (written ≡ 0 → ⊥) → next_text written w x ≡ dot ∷ part_text w x
unfolding next_text
next-later written w x h d = rw (ne_eqb x 0 h, ne_eqb written 0 d, next_text)

-- What is to come is the next part and what is to come behind it.
parts_next : (written : ℕ) (w : Text) (ws : List Text) (x : ℕ) (a : Label) →
    to_come written (part_texts (w ∷ ws) (x ∷ a)) ≡ next_text written w x ++ to_come (written + length (next_text written w x)) (part_texts ws a)
unfolding joined_by followed
parts_next written w ws x a =
    let part = part_text w x in
    let rest = part_texts ws a in
    elim (ℕ_discrete x 0) [
      | yes e ↦ rw (part_texts-zero w ws x a e, next-absent written w x e, add-zero)
      | no h ↦ elim (ℕ_discrete written 0) [
        | yes e ↦ rw (part_texts-some w ws x a h, next-first written w x h e, to_come-none written (part ∷ rest) e)
            (rw (to_come-some (written + length part) rest (omega (arith, length_part w x))))
        | no d ↦ rw (part_texts-some w ws x a h, next-later written w x h d, to_come-some written (part ∷ rest) d)
            (rw (to_come-some (written + length (dot ∷ part)) rest (omega arith)))
      ]
    ]

-- The parts of the names from the i-th on, whose counts are the digits of what is left of the label's word.
abbrev pub parts_from : List ℕ → ℕ → ℕ → List Text
parts_from names i rest = part_texts (name_texts (drop i names)) (label_of (24 - i) rest)

parts-step : (written : ℕ) (names : List ℕ) (i rest : ℕ) → i < 24 → length names ≡ 24 →
    to_come written (parts_from names i rest)
    ≡ next_text written (name_of 8 (get_or names i 0)) (rest % 32)
    ++ to_come (written + length (next_text written (name_of 8 (get_or names i 0)) (rest % 32))) (parts_from names (i + 1) (rest / 32))
unfolding label_of
parts-step written names i rest h e =
    let more : 24 - i ≡ suc (24 - (i + 1)) = omega arith in
    let name = drop-cons names i 0 (omega arith) ∙ ap (λ (n : ℕ). get_or names i 0 ∷ drop n names) (sym (add-one i)) in
    rw (more, name)
    (parts_next written (name_of 8 (get_or names i 0)) (name_texts (drop (i + 1) names)) (rest % 32) (label_of (24 - (i + 1)) (rest / 32)))

-- Where nothing is left of the word, nothing is to come.
parts_none : (ws : List Text) (n : ℕ) → part_texts ws (label_of n 0) ≡ []
unfolding label_of part_texts
parts_none ws zero = refl
parts_none [] (suc n) = refl
parts_none (w ∷ ws) (suc n) = parts_none ws n

-- A turn of the writer's loop, and its end.
module _ {goal before mid : Text} {k : ℕ} (names : List ℕ) (i rest : ℕ) (u : Underway goal (to_come k (parts_from names i rest)) before mid k) where
  pub parts-room : i < 24 → length names ≡ 24 → length (next_text k (name_of 8 (get_or names i 0)) (rest % 32)) ≤ length (lent k mid)
  parts-room h e =
      let next = next_text k (name_of 8 (get_or names i 0)) (rest % 32) in
      next-room next (to_come (k + length next) (parts_from names (i + 1) (rest / 32))) (rw (parts-step k names i rest h e) at u)

  pub parts_again : {part : Text} {r : ℕ} → i < 24 → length names ≡ 24 →
      Written (next_text k (name_of 8 (get_or names i 0)) (rest % 32)) (lent k mid) part r →
      Underway goal (to_come (k + r) (parts_from names (i + 1) (rest / 32))) before (back k mid part) (k + r)
  parts_again h e v = underway-step (rw (rw (← v.size) at (parts-step k names i rest h e)) at u) v

  pub parts-early : rest ≡ 0 → Written goal before mid k
  parts-early e =
      let none = ap (parts_from names i) e ∙ parts_none (name_texts (drop i names)) (24 - i) in
      underway-end (rw (ap (to_come k) none ∙ to_come-nil k) at u)

  pub parts-end : i ≡ 24 → Written goal before mid k
  unfolding label_of part_texts
  parts-end e = underway-end (rw (ap (λ (n : ℕ). to_come k (parts_from names n rest)) e ∙ to_come-nil k) at u)

pub parts-start : (ts : List Text) → to_come 0 ts ≡ joined_by dot ts
parts-start ts = to_come-none 0 ts refl
