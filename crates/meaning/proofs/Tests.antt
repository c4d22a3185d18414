-- Tests against what they say: `&&`, `||`, equality with a number, and the comparison of two numbers.
-- Assumes nothing.
use mathlib.Core.Path.{◌≡◌, refl, sym, ap, ◌∙◌}
use mathlib.Core.Logic.{◌⊎◌, inl, inr}
use mathlib.Core.Bool.{Bool, true, false, ◌&&◌, ◌||◌, true≢false}
use Prim.Native.Nat.{ℕ, zero, suc, ◌+◌, ◌<◌, zero-le, suc-le-suc, compare, Ordering}
use Prim.Native.Nat.compare
use native.Mathlib.Omega.{arith}
use native.Mathlib.Decide.{dec_lt}
use borrow.Author.Tests.{le-leb, lt-leb}
use lib.Dec.{T, leb}

pub and_left : (b c : Bool) → T (b && c) → T b
and_left true c t = tt
and_left false c t = t

pub and_right : (b c : Bool) → T (b && c) → T c
and_right true c t = t
and_right false c t = absurd t

pub and_both : (b c : Bool) → T b → T c → T (b && c)
and_both true c p q = q
and_both false c p q = p

pub or_cases : (b c : Bool) → T (b || c) → T b ⊎ T c
or_cases true c t = inl tt
or_cases false c t = inr t

pub or_left : (b c : Bool) → T b → T (b || c)
or_left true c t = tt
or_left false c t = absurd t

pub or_right : (b c : Bool) → T c → T (b || c)
or_right true c t = tt
or_right false c t = t

-- The same of what a test of either, or of both, came to.
pub or-true→ : (b c : Bool) → (b || c) ≡ true → (b ≡ true) ⊎ (c ≡ true)
or-true→ true c e = inl refl
or-true→ false c e = inr e

pub or-false→ : (b c : Bool) → (b || c) ≡ false → (b ≡ false) × (c ≡ false)
or-false→ true c e = absurd (true≢false e)
or-false→ false c e = (refl, e)

pub and-true→ : (b c : Bool) → (b && c) ≡ true → (b ≡ true) × (c ≡ true)
and-true→ true c e = (refl, e)
and-true→ false c e = absurd (true≢false (sym e))

-- A test passes or fails.
pub decided-by : (b : Bool) → T b ⊎ (T b → ⊥)
decided-by true = inl tt
decided-by false = inr (λ t. t)

-- A part fits behind another where it fits in what that one leaves.
pub leb-behind : (size part left whole room : ℕ) → whole ≡ size + part → room ≡ size + left → leb part left ≡ leb whole room
leb-behind size part left whole room w r =
    elim (dec_lt left part) [
      | yes k ↦ lt-leb part left k ∙ sym (lt-leb whole room (omega arith))
      | no k ↦ le-leb part left (omega arith) ∙ sym (le-leb whole room (omega arith))
    ]

-- What a comparison says of the two that it compares, in a strict order of any kind.
abbrev pub Says : {A : Type 0} → (A → A → Type 0) → Ordering → A → A → Type 0
Says L Ordering.lt a b = L a b
Says L Ordering.eq a b = a ≡ b
Says L Ordering.gt a b = L b a

suc-says : (o : Ordering) (m n : ℕ) → Says ◌<◌ o m n → Says ◌<◌ o (suc m) (suc n)
suc-says Ordering.lt m n h = suc-le-suc h
suc-says Ordering.eq m n h = ap suc h
suc-says Ordering.gt m n h = suc-le-suc h

pub compare-says : (m n : ℕ) → Says ◌<◌ (compare m n) m n
compare-says zero zero = refl
compare-says zero (suc n) = rw (compare.zero-suc n) (suc-le-suc zero-le)
compare-says (suc m) zero = rw (compare.suc-zero m) (suc-le-suc zero-le)
compare-says (suc m) (suc n) = rw (compare.suc-suc m n) (suc-says (compare m n) m n (compare-says m n))
