-- Numbers in decimal: the last digit and those before it, and how many there are.
-- Assumes nothing.
use mathlib.Core.Path.{◌≡◌, sym, ap, ◌∙◌}
use mathlib.Core.List.{[], ◌∷◌, ◌++◌}
use Prim.Native.Nat.{ℕ, zero, suc, ◌+◌, ◌*◌, ◌/◌, ◌%◌, ◌^◌, ◌≤◌, ◌<◌, zero-le}
use native.Mathlib.Nat.{pow-suc, div-lt_iff_lt-mul}
use native.Mathlib.Omega.{arith}
use native.Mathlib.Decide.{dec_lt}
use borrow.Author.Tests.{lt-ltb, le-ltb}
use lib.Dec.{lit<}
use lib.ListN.{length, length-append}
use Rattle.meaning.specs.Bytes.{Text}
use Rattle.grammar.specs.Marks.{digits, decimal}

-- The two cases of the definition.
one-digit : (k n : ℕ) → n < 10 → digits (suc k) n ≡ (48 + n) ∷ []
unfolding digits
one-digit k n h = rw (lt-ltb n 10 h, digits)

last-digit : (k n : ℕ) → 10 ≤ n → digits (suc k) n ≡ digits k (n / 10) ++ ((48 + n % 10) ∷ [])
unfolding digits
last-digit k n h = rw (le-ltb n 10 h, digits)

-- One more digit allowed changes nothing where the digits are enough.
digits_more : (k n : ℕ) → n < 10 ^ suc k → digits (suc (suc k)) n ≡ digits (suc k) n
digits_more zero n h = one-digit 1 n h ∙ sym (one-digit 0 n h)
digits_more (suc k) n h =
    let tenth : n / 10 < 10 ^ suc k = (div-lt_iff_lt-mul (lit< tt)).1 (rw (pow-suc 10 (suc k)) at h) in
    elim (dec_lt n 10) [
      | yes d ↦ one-digit (suc (suc k)) n d ∙ sym (one-digit (suc k) n d)
      | no d ↦ rw (last-digit (suc (suc k)) n (omega arith), last-digit (suc k) n (omega arith), digits_more k (n / 10) tenth)
    ]

pub decimal_digit : (n : ℕ) → n < 10 → decimal n ≡ (48 + n) ∷ []
decimal_digit n h = one-digit 19 n h

pub decimal-last : (n : ℕ) → 10 ≤ n → n < 10 ^ 20 → decimal n ≡ decimal (n / 10) ++ ((48 + n % 10) ∷ [])
decimal-last n h fits =
    let tenth : n / 10 < 10 ^ 19 = (div-lt_iff_lt-mul (lit< tt)).1 fits in
    last-digit 19 n h ∙ ap (λ (s : Text). s ++ ((48 + n % 10) ∷ [])) (sym (digits_more 18 (n / 10) tenth))

pub length_last : (n : ℕ) → 10 ≤ n → n < 10 ^ 20 → length (decimal n) ≡ length (decimal (n / 10)) + 1
length_last n h fits = rw (decimal-last n h fits, length-append)

-- At most as many digits as are allowed; at most two below 100.
length_digits : (k n : ℕ) → length (digits k n) ≤ k
unfolding digits
length_digits zero n = zero-le
length_digits (suc k) n =
    elim (dec_lt n 10) [
      | yes d ↦ rw (one-digit k n d) (omega arith)
      | no d ↦ rw (last-digit k n (omega arith), length-append) (omega (arith, length_digits k (n / 10)))
    ]

pub length-decimal : (n : ℕ) → length (decimal n) ≤ 20
length-decimal n = length_digits 20 n

pub length-small : (n : ℕ) → n < 100 → length (decimal n) ≤ 2
length-small n h =
    elim (dec_lt n 10) [
      | yes d ↦ rw (one-digit 19 n d) (omega arith)
      | no d ↦ rw (last-digit 19 n (omega arith), one-digit 18 (n / 10) (omega arith)) (omega arith)
    ]

-- The two digits of a number below 100.
pub decimal-two : (m n : ℕ) → 1 ≤ m → m < 10 → n < 10 → decimal (10 * m + n) ≡ (48 + m) ∷ (48 + n) ∷ []
decimal-two m n h l k =
    let tens : (10 * m + n) / 10 ≡ m = omega arith in
    let ones : (10 * m + n) % 10 ≡ n = omega arith in
    last-digit 19 (10 * m + n) (omega arith) ∙ rw (tens, ones, one-digit 18 m l)
