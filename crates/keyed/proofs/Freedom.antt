-- A name that may be given: none of the earlier ones, and none of the words tau, none and all.
-- Assumes nothing.
use mathlib.Core.Path.{◌≡◌, refl, sym, ◌∙◌}
use mathlib.Core.Bool.{Bool, true, false, ◌&&◌, not}
use mathlib.Core.List.{List, [], ◌∷◌}
use Prim.Native.Nat.{ℕ, suc, ◌≤◌, ◌<◌}
use lib.Dec.{leb}
use lib.ListN.{length}
use borrow.Author.Tests.{lt-ltb, le-ltb}
use Rattle.meaning.specs.Bytes.{Text, ascii}
use Rattle.grammar.specs.Text.{same_text}
use Rattle.grammar.specs.Faults.{name_number}
use Rattle.words.proofs.Looked.{same_self, same_true}
use Rattle.grammar.specs.Reading.{is_free}

same-turned : (s t : Text) → same_text t s ≡ true → same_text s t ≡ true
same-turned s t e = rw (same_true t s e) (same_self s)

same-sym : (s t : Text) → same_text s t ≡ same_text t s
same-sym s t = cases (same_text s t) (same_text t s) refl refl
  where
    cases : (a b : Bool) → same_text s t ≡ a → same_text t s ≡ b → a ≡ b
    cases true true p q = refl
    cases false false p q = refl
    cases true false p q = sym (same-turned t s p) ∙ q
    cases false true p q = sym p ∙ same-turned s t q

-- not the first, the second or the third of three
none-of-three : (x y z : Bool)
    → leb 3 (elim x as (λ _. ℕ) [ true ↦ 0 | false ↦ suc (elim y as (λ _. ℕ) [ true ↦ 0 | false ↦ suc (elim z as (λ _. ℕ) [ true ↦ 0 | false ↦ 1 ]) ]) ])
    ≡ (not x && not y && not z)
none-of-three true y z = refl
none-of-three false true z = refl
none-of-three false false true = refl
none-of-three false false false = refl

pub name_number-three : (a b c w : Text) → leb 3 (name_number (a ∷ b ∷ c ∷ []) w) ≡ (not (same_text w a) && not (same_text w b) && not (same_text w c))
unfolding name_number
name_number-three a b c w = rw (same-sym w a, same-sym w b, same-sym w c) (none-of-three (same_text a w) (same_text b w) (same_text c w))

module _ (words : List Text) (w : Text) where
  pub is_free-held : name_number words w < length words → false ≡ is_free words w
  unfolding is_free
  is_free-held h = rw (lt-ltb (name_number words w) (length words) h)

  pub is_free-new : length words ≤ name_number words w → leb 3 (name_number (ascii "tau" ∷ ascii "none" ∷ ascii "all" ∷ []) w) ≡ is_free words w
  unfolding is_free
  is_free-new h = rw (le-ltb (name_number words w) (length words) h) (name_number-three (ascii "tau") (ascii "none") (ascii "all") w)
