-- A text is too long exactly if it has over 8,192 bytes.
-- Assumes nothing.
use mathlib.Core.Path.{◌≡◌, refl}
use mathlib.Core.Bool.{Bool, true, false}
use mathlib.Core.List.{[], ◌∷◌}
use Prim.Native.Nat.{ℕ, ◌<◌}
use native.Mathlib.Omega.{arith}
use borrow.Author.Tests.{lt-ltb, ltb-true}
use lib.Dec.{ltb}
use lib.ListN.{length}
use Rattle.meaning.specs.Bytes.{Text}
use Rattle.grammar.specs.Reading.{Walk, reached, halted, Whole, Reading, overlong, described, whole_text, read_text}

pub →overlong : (text : Text) → 8192 < length text → read_text text ≡ overlong
unfolding read_text
→overlong text h = rw (lt-ltb 8192 (length text) h, read_text)

described-short : (x : Walk Whole) → described x ≡ overlong → ⊥
described-short (reached w line []) e = let z : ◌≡◌ {A = ℕ} 0 1 = cc in omega arith
described-short (reached w line (b ∷ s)) e = let z : ◌≡◌ {A = ℕ} 0 1 = cc in omega arith
described-short (halted f line) e = let z : ◌≡◌ {A = ℕ} 0 1 = cc in omega arith

pub overlong→ : (text : Text) → read_text text ≡ overlong → 8192 < length text
unfolding read_text
overlong→ text e = by (ltb 8192 (length text)) refl e
  where
    by : (b : Bool) → ltb 8192 (length text) ≡ b
        → (elim b as (λ _. Reading) [ true ↦ overlong | false ↦ described (whole_text text) ]) ≡ overlong → 8192 < length text
    by true test x = ltb-true 8192 (length text) test
    by false test x = absurd (described-short (whole_text text) x)
