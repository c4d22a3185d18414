-- Names that are looked up by their words, and words that must stand there whole.
-- Assumes nothing.
use mathlib.Core.Path.{◌≡◌, refl, sym, ap, ap₂, ◌∙◌}
use mathlib.Core.Bool.{Bool, true, false, ◌&&◌, false≢true}
use mathlib.Core.List.{List, [], ◌∷◌}
use Prim.Native.Nat.{ℕ, zero, suc, ◌+◌, ◌/◌, ◌%◌, ◌^◌, ◌≤◌, ◌<◌}
use native.Mathlib.Nat.{pow-suc, div-lt_iff_lt-mul}
use native.Mathlib.Omega.{arith}
use lib.Dec.{T, eqb, eqb→eq, lit<}
use lib.ListN.{length, get_or, drop_of_length-le}
use borrow.Author.Tests.{eqb-true, eq-eqb, ne_eqb}
use Rattle.meaning.specs.Bytes.{Text}
use Rattle.meaning.proofs.Tests.{and_left, and_right}
use Rattle.table.specs.Decoded.{name_of}
use Rattle.table.specs.Encoded.{word_of}
use Rattle.grammar.specs.Text.{Past, past, stuck, same_text, starts, lf, literal, is_rest}
use Rattle.grammar.specs.Faults.{name_number}
use Rattle.words.specs.Searches.{number_from}
use Rattle.words.proofs.Rests.{rest-cons}

is_true : (b : Bool) → T b → b ≡ true
is_true true t = refl
is_true false t = absurd t

pub same_self : (s : Text) → same_text s s ≡ true
unfolding same_text
same_self [] = refl
same_self (b ∷ s) = rw (eq-eqb b b refl) (same_self s)

pub same_true : (s t : Text) → same_text s t ≡ true → s ≡ t
unfolding same_text
same_true [] [] e = refl
same_true [] (c ∷ t) e = absurd (false≢true e)
same_true (b ∷ s) [] e = absurd (false≢true e)
same_true (b ∷ s) (c ∷ t) e =
    let p : T (eqb b c && same_text s t) = rw e tt in
    ap₂ {C = Text} ◌∷◌ (eqb→eq b c (and_left (eqb b c) (same_text s t) p)) (same_true s t (is_true (same_text s t) (and_right (eqb b c) (same_text s t) p)))

-- every word is that of the name it stands for
pub word-name : (k w : ℕ) → w < 256 ^ k → word_of (name_of k w) ≡ w
unfolding name_of word_of
word-name zero w h = let j : w < 1 = h in omega arith
word-name (suc k) w h = cases (eqb w 0) refl (word-name k (w / 256) ((div-lt_iff_lt-mul (lit< tt)).1 (rw (pow-suc 256 k) at h)))
  where
    cases : (t : Bool) → eqb w 0 ≡ t → word_of (name_of k (w / 256)) ≡ w / 256 → word_of (name_of (suc k) w) ≡ w
    cases true e ih = rw (e, name_of) (sym (eqb-true w 0 e))
    cases false e ih = rw (e, name_of) (omega arith)

pub same_not : (v w : ℕ) → v < 2 ^ 64 → w < 2 ^ 64 → (v ≡ w → ⊥) → same_text (name_of 8 v) (name_of 8 w) ≡ false
same_not v w p q d = cases (same_text (name_of 8 v) (name_of 8 w)) refl
  where
    cases : (t : Bool) → same_text (name_of 8 v) (name_of 8 w) ≡ t → t ≡ false
    cases true e = absurd (d (sym (word-name 8 v p) ∙ ap word_of (same_true (name_of 8 v) (name_of 8 w) e) ∙ word-name 8 w q))
    cases false e = refl

module _ (names : List ℕ) (i w : ℕ) where
  pub number-here : i < length names → get_or names i 0 ≡ w → i ≡ number_from names i w
  unfolding name_number
  number-here h e = rw (rest-cons names i h, e, same_self (name_of 8 w), name_number) (omega arith)

  pub number-later : i < length names → get_or names i 0 < 2 ^ 64 → w < 2 ^ 64 → (get_or names i 0 ≡ w → ⊥)
      → number_from names (i + 1) w ≡ number_from names i w
  unfolding name_number
  number-later h p q d = rw (rest-cons names i h, same_not (get_or names i 0) w p q d, name_number) (omega arith)

  pub number-none : length names ≤ i → i ≡ number_from names i w
  unfolding name_number
  number-none h = rw (drop_of_length-le names h) (omega arith)

-- A word that is all that is left of the line.
abbrev pub ends_there : Past (Unit {0}) → Bool
ends_there (past u s) = starts lf s
ends_there (stuck s) = false

pub rest-literal : (w s : Text) → ends_there (literal w s) ≡ is_rest w s
unfolding is_rest literal
rest-literal [] s = refl
rest-literal (c ∷ w) [] = refl
rest-literal (c ∷ w) (b ∷ s) = cases (eqb c b) refl (rest-literal w s)
  where
    cases : (t : Bool) → eqb c b ≡ t → ends_there (literal w s) ≡ is_rest w s → ends_there (literal (c ∷ w) (b ∷ s)) ≡ (eqb c b && is_rest w s)
    cases true e ih = rw (e, literal) ih
    cases false e ih = rw (e, literal)

-- A packed word, byte by byte.
pub packed-split : (left k m : ℕ) → k ≡ suc m → 0 < left → left < 256 ^ k → (left / 256 < 256 ^ m) × (name_of k left ≡ left % 256 ∷ name_of m (left / 256))
unfolding name_of
packed-split left k m e some h =
    let j = rw e at h in
    rw e ((div-lt_iff_lt-mul (lit< tt)).1 (rw (pow-suc 256 m) at j), rw (ne_eqb left 0 (λ z. omega (arith, z)), name_of))

pub packed_all : {left : ℕ} (k : ℕ) → left ≡ 0 → name_of k left ≡ []
unfolding name_of
packed_all zero e = refl
packed_all (suc k) e = rw e
