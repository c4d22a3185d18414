-- Words and their digits to base 32.
-- Assumes nothing.
use Rattle.std.proofs.Common.{◌≡◌, ℕ, zero, suc, ◌+◌, ◌-◌, ◌*◌, ◌/◌, ◌%◌, ◌^◌, ◌<◌, ◌≤◌, Bool, true, false, ◌&&◌, ◌||◌, eqb, leb, [], ◌∷◌, ◌++◌, length, sym, refl, ap, ◌∙◌, ap₂, lt_of_lt_of_le, le_of_suc-le-suc, not-suc-le-zero, mod-eq_of_lt, mul_assoc, mul_comm, pow-suc, mul-zero, mul-one, mul-suc, arith, lit≤, pow_mono, pow-add, shl_lt, ne_eqb, le-leb, leb-true}
use mathlib.Core.Bool.{and_assoc}
use native.Mathlib.Nat.{suc_inj, pow-zero}
use borrow.Author.Tests.{lt-leb}
use lib.Dec.{leb-zero}
use Rattle.meaning.specs.Labels.{Label, count, number, label_of, empty, several, inside}
use Rattle.meaning.proofs.Digits.{number-label_of, length-label_of}
use Rattle.meaning.proofs.Alike.{alike}
use Rattle.meaning.proofs.Tests.{and-true→}
use Rattle.labels.specs.Bags.{bag, as_much}

-- Twenty-five digits hold every number that two words hold.
pub number-bag : (w : ℕ) → w < 2 ^ 124 → number (bag w) ≡ w
number-bag w h = number-label_of 25 w (omega arith)

-- A shift by so many bits again and again is a factor: by five bits, of 32.
pub pow-mul : (bits n : ℕ) → 2 ^ (bits * n) ≡ (2 ^ bits) ^ n
pow-mul bits zero = rw (mul-zero bits, pow-zero (2 ^ bits))
pow-mul bits (suc n) = rw (mul-suc bits n) (pow-add 2 (bits * n) bits ∙ ap (λ (x : ℕ). x * 2 ^ bits) (pow-mul bits n) ∙ sym (pow-suc (2 ^ bits) n))

-- The number of some actions of one name.
pub number-empty : (names : ℕ) → number (empty names) ≡ 0
unfolding number
number-empty zero = refl
number-empty (suc names) = omega (arith, number-empty names)

pub number-several : (names n x : ℕ) → n < names → number (several names n x) ≡ x * 32 ^ n
unfolding number
number-several zero n x h = absurd (not-suc-le-zero h)
number-several (suc names) zero x h = let e = number-empty names in let k = mul-one x in omega arith
number-several (suc names) (suc n) x h =
    let ih = number-several names n x (le_of_suc-le-suc h) in
    let e : x * 32 ^ suc n ≡ 32 * (x * 32 ^ n) = rw (pow-suc 32 n) (sym (mul_assoc x (32 ^ n) 32) ∙ mul_comm (x * 32 ^ n) 32) in
    omega arith

pub number-none : (names n x : ℕ) → names ≤ n → number (several names n x) ≡ 0
unfolding number
number-none zero n x h = refl
number-none (suc names) zero x h = absurd (not-suc-le-zero h)
number-none (suc names) (suc n) x h = omega (arith, number-none names n x (le_of_suc-le-suc h))

-- The digits of two words, one above the other.
pub fewer_digits : (k w : ℕ) → w < 32 ^ suc k → w / 32 < 32 ^ k
fewer_digits k w h = let e = pow-suc 32 k in omega arith

pub label_of-words : (k m lower upper : ℕ) → lower < 32 ^ k → label_of (k + m) (lower + 32 ^ k * upper) ≡ label_of k lower ++ label_of m upper
unfolding label_of
label_of-words zero m lower upper h =
    let k : 0 + m ≡ m = omega arith in
    let w : lower + 1 * upper ≡ upper = let l : lower < 1 = h in omega arith in
    rw (k, w)
label_of-words (suc k) m lower upper h =
    let s : suc k + m ≡ suc (k + m) = omega arith in
    let e : 32 ^ suc k * upper ≡ 32 * (32 ^ k * upper) = rw (pow-suc 32 k) (omega arith) in
    let lo : (lower + 32 ^ suc k * upper) % 32 ≡ lower % 32 = omega arith in
    let hi : (lower + 32 ^ suc k * upper) / 32 ≡ lower / 32 + 32 ^ k * upper = omega arith in
    rw (s, lo, hi) (ap (λ (a : Label). (lower % 32) ∷ a) (label_of-words k m (lower / 32) upper (fewer_digits k lower h)))

-- Whether a word has no fewer than another of the names of a third, digit by digit; of all names of the other, where the third is
-- the other itself.
pub as-much-none : (k small large : ℕ) → as_much (label_of k 0) (label_of k small) (label_of k large) ≡ true
unfolding as_much label_of
as-much-none zero small large = refl
as-much-none (suc k) small large = as-much-none k (small / 32) (large / 32)

own-names : (x y : ℕ) → eqb x 0 || leb x y ≡ leb x y
own-names zero y = sym (leb-zero y)
own-names (suc x) y = rw (ne_eqb (suc x) 0 (λ (e : suc x ≡ 0). omega arith))

pub inside-as-much : (k small large : ℕ) → inside (label_of k small) (label_of k large) ≡ as_much (label_of k small) (label_of k small) (label_of k large)
unfolding inside as_much label_of
inside-as-much zero small large = refl
inside-as-much (suc k) small large = ap₂ ◌&&◌ (sym (own-names (small % 32) (large % 32))) (inside-as-much k (small / 32) (large / 32))

-- Two words, one above the other, are compared one after the other.
as-much-append : (n a b n' a' b' : Label) → length n ≡ length a → length a ≡ length b
    → as_much (n ++ n') (a ++ a') (b ++ b') ≡ as_much n a b && as_much n' a' b'
unfolding as_much
as-much-append [] [] [] n' a' b' d e = refl
as-much-append [] (y ∷ a) b n' a' b' d e = absurd (omega arith)
as-much-append [] [] (z ∷ b) n' a' b' d e = absurd (omega arith)
as-much-append (x ∷ n) [] b n' a' b' d e = absurd (omega arith)
as-much-append (x ∷ n) (y ∷ a) [] n' a' b' d e = absurd (omega arith)
as-much-append (x ∷ n) (y ∷ a) (z ∷ b) n' a' b' d e =
    ap (λ (t : Bool). (eqb x 0 || leb y z) && t) (as-much-append n a b n' a' b' (suc_inj d) (suc_inj e))
    ∙ sym (and_assoc (eqb x 0 || leb y z) (as_much n a b) (as_much n' a' b'))

pub as-much-words : (k m n a b n' a' b' : ℕ) → n < 32 ^ k → a < 32 ^ k → b < 32 ^ k
    → as_much (label_of (k + m) (n + 32 ^ k * n')) (label_of (k + m) (a + 32 ^ k * a')) (label_of (k + m) (b + 32 ^ k * b'))
    ≡ as_much (label_of k n) (label_of k a) (label_of k b) && as_much (label_of m n') (label_of m a') (label_of m b')
as-much-words k m n a b n' a' b' d e f =
    rw (label_of-words k m n n' d, label_of-words k m a a' e, label_of-words k m b b' f)
    (as-much-append (label_of k n) (label_of k a) (label_of k b) _ _ _ (alike (length-label_of k n) (length-label_of k a))
    (alike (length-label_of k a) (length-label_of k b)))

-- The first of three words has a digit left: some number of digits holds it, and what is left after one.
pub record Compared (named small large : ℕ) (r : Bool) : Type 0 where
  pub digits : ℕ
  pub holds : named < 32 ^ digits
  pub equal : as_much (label_of digits named) (label_of digits small) (label_of digits large) ≡ r

pub compared-end : {small large : ℕ} {r : Bool} → Compared 0 small large r → true ≡ r
compared-end {small} {large} x = sym (as-much-none x.digits small large) ∙ x.equal

digits-positive : (k w : ℕ) → w < 32 ^ k → (w ≡ 0 → ⊥) → (j : ℕ) × (k ≡ suc j)
digits-positive zero w h n = absurd (n (let k : w < 1 = h in omega arith))
digits-positive (suc j) w h n = (j, refl)

abbrev pub digit_test : (named small large : ℕ) → Bool
digit_test named small large = eqb (named % 32) 0 || leb (small % 32) (large % 32)

split-digit : (j named small large : ℕ) (r : Bool) → as_much (label_of (suc j) named) (label_of (suc j) small) (label_of (suc j) large) ≡ r
    → digit_test named small large && as_much (label_of j (named / 32)) (label_of j (small / 32)) (label_of j (large / 32)) ≡ r
unfolding as_much label_of
split-digit j named small large r e = e

one-digit : {named small large : ℕ} {r : Bool} → Compared named small large r → (named ≡ 0 → ⊥)
    → (j : ℕ) × (named < 32 ^ suc j)
    × (digit_test named small large && as_much (label_of j (named / 32)) (label_of j (small / 32)) (label_of j (large / 32)) ≡ r)
one-digit {named} {small} {large} {r} x n =
    let p = digits-positive x.digits named x.holds n in
    (p.0, rw p.1 at x.holds, split-digit p.0 named small large r (rw p.1 at x.equal))

pub compared-fail : {named small large : ℕ} {r : Bool} → Compared named small large r → (named ≡ 0 → ⊥) → (named % 32 ≡ 0 → ⊥)
    → large % 32 < small % 32 → false ≡ r
compared-fail {named} {small} {large} x n d h = rw (ne_eqb (named % 32) 0 d, lt-leb (small % 32) (large % 32) h) at (one-digit x n).2

either_true : (t : Bool) → t || true ≡ true
either_true true = refl
either_true false = refl

compared-next : {named small large : ℕ} {r : Bool} → Compared named small large r → (named ≡ 0 → ⊥) → digit_test named small large ≡ true
    → Compared (named / 32) (small / 32) (large / 32) r
compared-next {named} {small} {large} x n t =
    let p = one-digit x n in
    record { digits = p.0; holds = fewer_digits p.0 named p.1; equal = rw t at p.2 }

-- a name of the digit has no fewer, or the digit has no name
pub compared-step : {named small large : ℕ} {r : Bool} → Compared named small large r → (named ≡ 0 → ⊥) → small % 32 ≤ large % 32
    → Compared (named / 32) (small / 32) (large / 32) r
compared-step {named} {small} {large} x n h = compared-next x n (rw (le-leb (small % 32) (large % 32) h) (either_true (eqb (named % 32) 0)))

pub compared-skip : {named small large : ℕ} {r : Bool} → Compared named small large r → (named ≡ 0 → ⊥) → named % 32 ≡ 0
    → Compared (named / 32) (small / 32) (large / 32) r
compared-skip {named} x n z = compared-next x n (rw z)

-- What the test tells of the counts of one name.
digit-counts : (names a b : ℕ) → digit_test names a b ≡ true → 0 < names % 32 → a % 32 ≤ b % 32
digit-counts names a b t h =
    leb-true (a % 32) (b % 32) (rw (ne_eqb (names % 32) 0 (λ (e : names % 32 ≡ 0). omega arith)) at t)

digits-count : (k names a b n : ℕ) → as_much (label_of k names) (label_of k a) (label_of k b) ≡ true
    → 0 < count (label_of k names) n → count (label_of k a) n ≤ count (label_of k b) n
unfolding as_much label_of
digits-count zero names a b n t h = omega arith
digits-count (suc k) names a b zero t h =
    digit-counts names a b (and-true→ (digit_test names a b) (as_much (label_of k (names / 32)) (label_of k (a / 32)) (label_of k (b / 32))) t).0 h
digits-count (suc k) names a b (suc n) t h =
    digits-count k (names / 32) (a / 32) (b / 32) n
    (and-true→ (digit_test names a b) (as_much (label_of k (names / 32)) (label_of k (a / 32)) (label_of k (b / 32))) t).1 h

pub as-much-counts : (names a b : ℕ) → as_much (bag names) (bag a) (bag b) ≡ true
    → (n : ℕ) → 0 < count (bag names) n → count (bag a) n ≤ count (bag b) n
as-much-counts names a b t n h = digits-count 25 names a b n t h

-- The actions of one name in a word, by a shift.
pub shifted-word : (n x : ℕ) → n < 12 → x < 32 → ((x * 2 ^ (5 * n)) % 2 ^ 64 ≡ x * 32 ^ n) × (x * 32 ^ n < 2 ^ 60)
shifted-word n x h few =
    let shift = pow-mul 5 n in
    let fits : x * 2 ^ (5 * n) < 2 ^ 60 = lt_of_lt_of_le (shl_lt 5 (5 * n) few) (pow_mono {j = 60} (omega arith)) in
    (mod-eq_of_lt (lt_of_lt_of_le fits (lit≤ tt)) ∙ ap (λ (p : ℕ). x * p) shift, rw shift at fits)

-- in the upper of two words
pub power-upper : (n x : ℕ) → 12 ≤ n → x * 32 ^ n ≡ 0 + 2 ^ 60 * (x * 32 ^ (n - 12))
power-upper n x h =
    let e : 12 + (n - 12) ≡ n = omega arith in
    let p : 32 ^ n ≡ 2 ^ 60 * 32 ^ (n - 12) = rw e at (pow-add 32 12 (n - 12)) in
    rw p (omega arith)
