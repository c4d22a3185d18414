-- Counts of names: a digit to base 32 of one of a label's two words, and the label without it.
-- Assumes nothing.
use mathlib.Core.Path.{◌≡◌, sym, ap, ◌∙◌}
use mathlib.Core.List.{[], ◌∷◌, ◌++◌, append-nil}
use Prim.Native.Nat.{ℕ, zero, suc, ◌+◌, ◌*◌, ◌-◌, ◌/◌, ◌%◌, ◌^◌, ◌≤◌, ◌<◌, zero-le}
use native.Mathlib.Nat.{pow-suc, pow-succ', not-suc-le-zero, mul_comm, mul_assoc, mul-one, div-div-eq-div-mul, le_of_suc-le-suc, div-one}
use native.Mathlib.Omega.{arith}
use lib.Dec.{lit<}
use lib.ListN.{length, set, length-set, get_or-append}
use lib.Bits.{bit_and}
use lib.Pow.{pow-add}
use lib.Seq.{get_or-append-add, set_out}
use Rattle.meaning.specs.Labels.{Label, count, number, label_of}
use Rattle.meaning.proofs.Digits.{Small, label_of-number, length-label_of, small-label_of, number-label_of}
use Rattle.labels.specs.declared.Label as packing
use Rattle.labels.specs.Packing.{code, packed}
use Rattle.labels.specs.Bags.{bag}
use Rattle.labels.proofs.Codes.{words-packed}
use Rattle.labels.proofs.Words.{number-bag, pow-mul, label_of-words}
use Rattle.names.proofs.Masks.{masked}

-- The digits of a label are those of its two words; what stands above a lower word's twelve is passed over.
low_word : (w : ℕ) → label_of 12 w ≡ label_of 12 (w % 2 ^ 60)
unfolding label_of
low_word w =
    let e : w ≡ w % 2 ^ 60 + 2 ^ 60 * (w / 2 ^ 60) = omega arith in
    ap (label_of 12) e ∙ label_of-words 12 0 (w % 2 ^ 60) (w / 2 ^ 60) (omega arith) ∙ append-nil (label_of 12 (w % 2 ^ 60))

pub label_of-code : (more : ℕ) (a : packing.Label) → label_of (12 + more) (code a) ≡ label_of 12 a.lower ++ label_of more a.upper
unfolding code
label_of-code more a =
    label_of-words 12 more (a.lower % 2 ^ 60) a.upper (omega arith) ∙ ap (λ (l : Label). l ++ label_of more a.upper) (sym (low_word a.lower))

-- A digit of a number, by a division and by a shift.
count-label_of : (names w n : ℕ) → n < names → count (label_of names w) n ≡ w / 32 ^ n % 32
unfolding label_of
count-label_of zero w n h = absurd (not-suc-le-zero h)
count-label_of (suc names) w zero h = rw (div-one w)
count-label_of (suc names) w (suc n) h =
    count-label_of names (w / 32) n (le_of_suc-le-suc h)
    ∙ ap (λ (x : ℕ). x % 32) (div-div-eq-div-mul w 32 (32 ^ n) ∙ ap (λ (x : ℕ). w / x) (sym (pow-succ' 32 n)))

shifted : (names w n : ℕ) → n < names → count (label_of names w) n ≡ w / 2 ^ (5 * n) % 32
shifted names w n h = count-label_of names w n h ∙ ap (λ (x : ℕ). w / x % 32) (sym (pow-mul 5 n))

-- What is left of a number without it.
number-cleared : (a : Label) (n : ℕ) → n < length a → number (set a n 0) + count a n * 32 ^ n ≡ number a
unfolding number
number-cleared [] n h = absurd (not-suc-le-zero h)
number-cleared (x ∷ a) zero h = let e = mul-one x in omega arith
number-cleared (x ∷ a) (suc n) h =
    let ih = number-cleared a n (le_of_suc-le-suc h) in
    let e : count a n * 32 ^ suc n ≡ 32 * (count a n * 32 ^ n) =
    rw (pow-suc 32 n) (sym (mul_assoc (count a n) (32 ^ n) 32) ∙ mul_comm (count a n * 32 ^ n) 32) in
    omega arith

cleared : (names w n : ℕ) → w < 32 ^ names → n < names
    → number (set (label_of names w) n 0) + count (label_of names w) n * 2 ^ (5 * n) ≡ w
cleared names w n h k = rw (pow-mul 5 n) (number-cleared (label_of names w) n (rw (length-label_of names w) k) ∙ number-label_of names w h)

-- A name has its digit in one of the two words.
module _ (a : packing.Label) (n : ℕ) where
  lower-name : n < 12 → count (bag (code a)) n ≡ count (label_of 12 a.lower) n
  lower-name h =
      rw (label_of-code 13 a) (get_or-append (label_of 12 a.lower) (label_of 13 a.upper) 0 n (rw (length-label_of 12 a.lower) h))

  upper-name : 12 ≤ n → count (bag (code a)) n ≡ count (label_of 13 a.upper) (n - 12)
  upper-name h =
      let at : length (label_of 12 a.lower) + (n - 12) ≡ n = omega (arith, length-label_of 12 a.lower) in
      rw (label_of-code 13 a) (rw at at (get_or-append-add (label_of 12 a.lower) (label_of 13 a.upper) (n - 12) 0))

  pub lower-count : n < 12 → count (bag (code a)) n ≡ a.lower / 2 ^ (5 * n) % 32
  lower-count h = lower-name h ∙ shifted 12 a.lower n h

  pub upper-count : 12 ≤ n → n < 25 → count (bag (code a)) n ≡ a.upper / 2 ^ (5 * (n - 12)) % 32
  upper-count h k = upper-name h ∙ shifted 13 a.upper (n - 12) (omega arith)

  -- The label without the name: its digit of the word goes.
  upper-weight : 12 ≤ n → (x : ℕ) → x * 2 ^ (5 * n) ≡ 2 ^ 60 * (x * 2 ^ (5 * (n - 12)))
  upper-weight h x =
      let e : 5 * n ≡ 60 + 5 * (n - 12) = omega arith in
      ap (λ (k : ℕ). x * k) (ap (λ (k : ℕ). 2 ^ k) e ∙ pow-add 2 60 (5 * (n - 12)))
      ∙ sym (mul_assoc x (2 ^ 60) (2 ^ (5 * (n - 12))))
      ∙ ap (λ (k : ℕ). k * 2 ^ (5 * (n - 12))) (mul_comm x (2 ^ 60))
      ∙ mul_assoc (2 ^ 60) x (2 ^ (5 * (n - 12)))

  module _ (w : a.upper < 2 ^ 64) where
    rest : n < 25 → number (set (bag (code a)) n 0) + count (bag (code a)) n * 2 ^ (5 * n) ≡ code a
    unfolding code
    rest h = cleared 25 (code a) n (omega arith) h

    -- what is left of the one word and the digit at its place are the word
    lower-rest : (left : ℕ) → n < 12 → left + a.lower % 2 ^ 60 / 2 ^ (5 * n) % 32 * 2 ^ (5 * n) ≡ a.lower % 2 ^ 60
        → record { lower = left; upper = a.upper } ≡ packed (number (set (bag (code a)) n 0))
    unfolding code
    lower-rest left h e =
        let digit = lower-name h ∙ ap (λ (b : Label). count b n) (low_word a.lower) ∙ shifted 12 (a.lower % 2 ^ 60) n h in
        words-packed left a.upper (omega arith) (omega (arith, rw digit at (rest (omega arith)), e))

    upper-rest : (left : ℕ) → 12 ≤ n → n < 25 → left + a.upper / 2 ^ (5 * (n - 12)) % 32 * 2 ^ (5 * (n - 12)) ≡ a.upper
        → record { lower = a.lower % 2 ^ 60; upper = left } ≡ packed (number (set (bag (code a)) n 0))
    unfolding code
    upper-rest left h k e =
        let digit = upper-count h k in
        let place = upper-weight h (a.upper / 2 ^ (5 * (n - 12)) % 32) in
        words-packed (a.lower % 2 ^ 60) left (omega arith) (omega (arith, rw digit at (rest k), e))

    pub lower-cleared : n < 12
        → record { lower = bit_and (a.lower % 2 ^ 60) (2 ^ 60 - 1 - (31 * 2 ^ (5 * n)) % 2 ^ 64); upper = a.upper }
        ≡ packed (number (set (bag (code a)) n 0))
    lower-cleared h = lower-rest _ h (masked (5 * n) 60 (a.lower % 2 ^ 60) (omega arith) (omega arith) (omega arith))

    pub upper-cleared : 12 ≤ n → n < 24
        → record { lower = a.lower % 2 ^ 60; upper = bit_and a.upper (2 ^ 64 - 1 - (31 * 2 ^ (5 * (n - 12))) % 2 ^ 64) }
        ≡ packed (number (set (bag (code a)) n 0))
    upper-cleared h k = upper-rest _ h (omega arith) (masked (5 * (n - 12)) 64 a.upper (omega arith) (omega arith) w)

    -- the name after the last has the four bits above
    pub last-cleared : n ≡ 24 → record { lower = a.lower % 2 ^ 60; upper = a.upper % 2 ^ 60 } ≡ packed (number (set (bag (code a)) n 0))
    last-cleared e =
        let place : 5 * (n - 12) ≡ 60 = omega arith in
        upper-rest (a.upper % 2 ^ 60) (omega arith) (omega arith) (rw place (omega arith))

  pub none-cleared : a.upper < 2 ^ 64 → 25 ≤ n → record { lower = a.lower % 2 ^ 60; upper = a.upper } ≡ packed (number (set (bag (code a)) n 0))
  unfolding code
  none-cleared w h =
      let e = set_out (bag (code a)) n 0 (rw (length-label_of 25 (code a)) h) in
      rw e (words-packed (a.lower % 2 ^ 60) a.upper (omega arith) (omega (arith, number-bag (code a) (omega arith))))

-- A label that is hidden from again: its digits are those of the label.
pub number-less : (a : Label) (n : ℕ) → number (set a n 0) ≤ number a
unfolding number
number-less [] n = zero-le
number-less (x ∷ a) zero = omega arith
number-less (x ∷ a) (suc n) = let ih = number-less a n in omega arith

small-cleared : (a : Label) (n : ℕ) → Small a → Small (set a n 0)
small-cleared [] n h = h
small-cleared (x ∷ a) zero h = (lit< tt, h.1)
small-cleared (x ∷ a) (suc n) h = (h.0, small-cleared a n h.1)

pub bag-cleared : (w n : ℕ) → bag (number (set (bag w) n 0)) ≡ set (bag w) n 0
bag-cleared w n =
    let l : length (set (bag w) n 0) ≡ 25 = length-set (bag w) n 0 ∙ length-label_of 25 w in
    rw l at (label_of-number (set (bag w) n 0) (small-cleared (bag w) n (small-label_of 25 w)))
