-- What a word borrows when another is taken from it: a digit to base 32 that is below the other's borrows of the next, whose lowest bit
-- tells it.
-- Assumes nothing.
use Rattle.std.proofs.Common.{◌≡◌, ℕ, zero, suc, ◌+◌, ◌-◌, ◌*◌, ◌/◌, ◌%◌, ◌^◌, ◌<◌, ◌≤◌, Bool, true, false, T, eqb, refl, ◌∙◌, arith, ne_eqb, le-leb}
use native.Mathlib.Nat.{min-zero, min-eq_left}
use native.Mathlib.Decide.{dec_le}
use borrow.Author.Tests.{lt-leb}
use lib.Bits.{bit_and, bit_xor, and_step, xor_add_and, and_zero_r, and_shr, and_mod, xor_shr}
use Rattle.meaning.specs.Labels.{label_of, inside}
use Rattle.meaning.proofs.Bags.{number-minus}
use Rattle.meaning.proofs.Digits.{number-label_of}
use Rattle.labels.proofs.Words.{fewer_digits}
use Rattle.labels.proofs.Codes.{eqb-alike}

-- The lowest bits of so many digits, from the second on.
unfoldable pub lent : ℕ → ℕ
lent zero = 0
lent (suc n) = 32 * (1 + lent n)

-- The bits that lend when a word is taken from another: those in which the difference is not what the bits of the words alone make.
abbrev pub borrowed : ℕ → ℕ → ℕ
borrowed x y = bit_xor (bit_xor x y) (y - x)

lent-even : (n : ℕ) → lent n % 2 ≡ 0
unfolding lent
lent-even zero = omega arith
lent-even (suc n) = omega arith

lent-suc : (n : ℕ) → lent (suc n) ≡ 32 * (1 + lent n)
unfolding lent
lent-suc n = refl

-- One bit more in a mask that lacks the lowest.
one_more : (w n : ℕ) → bit_and w (1 + lent n) ≡ bit_and w (lent n) + w % 2
one_more w n =
    let e = lent-even n in
    let half : (1 + lent n) / 2 ≡ lent n / 2 = omega arith in
    let last : w % 2 ≤ 1 = omega arith in
    let odd : (1 + lent n) % 2 ≡ 1 = omega arith in
    let with = rw (half, odd, min-eq_left last) at (and_step w (1 + lent n)) in
    let without = rw (e, min-zero (w % 2)) at (and_step w (lent n)) in
    omega arith

-- Of the first digit such a mask leaves nothing, and of the second the lowest bit.
one-digit : (w n : ℕ) → bit_and w (lent (suc n)) ≡ 32 * (bit_and (w / 32) (lent n) + w / 32 % 2)
one-digit w n =
    let high : lent (suc n) / 32 ≡ 1 + lent n = omega (arith, lent-suc n) in
    let low : lent (suc n) % 32 ≡ 0 = omega (arith, lent-suc n) in
    let more = one_more (w / 32) n in
    let above = rw high at (and_shr w (lent (suc n)) 5) in
    let below = rw (low, and_zero_r (w % 32)) at (and_mod w (lent (suc n)) 5) in
    omega arith

-- What lends above the first digit, by what the difference is there.
borrowed-above : (x y d : ℕ) → (y - x) / 32 ≡ d → borrowed x y / 32 ≡ bit_xor (bit_xor (x / 32) (y / 32)) d
borrowed-above x y d e = xor_shr (bit_xor x y) (y - x) 5 ∙ rw (e, xor_shr x y 5)

-- The lowest bit of three numbers where they differ is that of their sum.
parity : (x y d : ℕ) → bit_xor (bit_xor x y) d % 2 ≡ (x + y + d) % 2
parity x y d = omega (arith, xor_add_and x y, xor_add_and (bit_xor x y) d)

-- A digit that borrows, and one that does not.
module _ (n x y : ℕ) (l : x ≤ y) where
  borrows : y % 32 < x % 32 → bit_and (borrowed x y) (lent (suc n)) ≡ 0 → ⊥
  borrows h z =
      let d = y / 32 - x / 32 - 1 in
      let a = borrowed-above x y d (omega arith) in
      omega (arith, parity (x / 32) (y / 32) d, one-digit (borrowed x y) n)

  borrows-nothing : x % 32 ≤ y % 32 → bit_and (borrowed x y) (lent (suc n)) ≡ 32 * bit_and (borrowed (x / 32) (y / 32)) (lent n)
  borrows-nothing h =
      let d = y / 32 - x / 32 in
      let a = borrowed-above x y d (omega arith) in
      omega (arith, parity (x / 32) (y / 32) d, rw a at (one-digit (borrowed x y) n))

-- A word lies inside one that is no smaller exactly if no digit borrows. The last of them cannot: nothing stands behind it.
pub lends_nothing : (n x y : ℕ) → x ≤ y → y < 32 ^ suc n
    → eqb (bit_and (borrowed x y) (lent n)) 0 ≡ inside (label_of (suc n) x) (label_of (suc n) y)
unfolding inside label_of lent
lends_nothing zero x y l h = rw (and_zero_r (borrowed x y), le-leb (x % 32) (y % 32) (omega arith))
lends_nothing (suc n) x y l h = elim (dec_le (x % 32) (y % 32)) [
  | yes k ↦
      let rest = bit_and (borrowed (x / 32) (y / 32)) (lent n) in
      let e : bit_and (borrowed x y) (lent (suc n)) ≡ 32 * rest = borrows-nothing n x y l k in
      let ih = lends_nothing n (x / 32) (y / 32) (omega arith) (fewer_digits (suc n) y h) in
      rw (le-leb (x % 32) (y % 32) k, e, eqb-alike (32 * rest) 0 rest 0 (λ z. omega arith, λ z. omega arith)) ih
  | no k ↦ rw (lt-leb (x % 32) (y % 32) (omega arith)) (ne_eqb _ 0 (borrows n x y l (omega arith)))
]

-- A word does not lie inside a smaller one.
refuted : (t : Bool) → (T t → ⊥) → false ≡ t
refuted true h = absurd (h tt)
refuted false h = refl

pub larger-outside : (n x y : ℕ) → x < 32 ^ n → y < x → false ≡ inside (label_of n x) (label_of n y)
larger-outside n x y h l =
    refuted _ (λ t. omega (arith, number-minus (label_of n y) (label_of n x) t, number-label_of n x h, number-label_of n y (omega arith)))
