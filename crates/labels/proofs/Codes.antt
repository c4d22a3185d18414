-- A number that is packed and read again, and what the words of packed numbers say of the numbers.
-- Assumes nothing.
use Rattle.std.proofs.Common.{◌≡◌, ℕ, ◌+◌, ◌*◌, ◌/◌, ◌%◌, ◌^◌, ◌<◌, ◌&&◌, eqb, ltb, ◌↔◌, sym, ap, ◌∙◌, ap₂, add-zero, arith, le-ltb, lt-ltb, eq-eqb, ne_eqb}
use mathlib.Core.Bool.{and-true}
use native.Mathlib.Decide.{dec_lt, ℕ_discrete}
use Rattle.meaning.specs.Labels.{label_of, inside}
use Rattle.labels.specs.declared.Label.{Label}
use Rattle.labels.specs.Packing.{code, packed}
use Rattle.labels.specs.Bags.{bag, as_much}
use Rattle.labels.proofs.Words.{as-much-none, as-much-words, inside-as-much}

-- The number of a packed number is that number.
pub code-packed : (n : ℕ) → code (packed n) ≡ n
unfolding code packed
code-packed n = omega arith

pub code_of : {r : Label} {n : ℕ} → r ≡ packed n → code r ≡ n
code_of {r} {n} e = ap code e ∙ code-packed n

-- Two words are the packed label of their number, if the lower has nothing above the names' bits.
pub words-packed : (lower upper : ℕ) {n : ℕ} → lower < 2 ^ 60 → n ≡ lower + 2 ^ 60 * upper → record { lower = lower; upper = upper } ≡ packed n
unfolding packed
words-packed lower upper {n} h e =
    let l : lower ≡ n % 2 ^ 60 = omega arith in
    let u : upper ≡ n / 2 ^ 60 = omega arith in
    ap₂ (λ (x y : ℕ). record { lower = x; upper = y }) l u

pub packed-code : (a : Label) → a.lower < 2 ^ 60 → packed (code a) ≡ a
unfolding code
packed-code a h = sym (words-packed a.lower a.upper h (omega arith))

-- Two tests of which each passes where the other does.
pub ltb-alike : (a b c d : ℕ) → (a < b) ↔ (c < d) → ltb a b ≡ ltb c d
ltb-alike a b c d h = elim (dec_lt a b) [
  | yes l ↦ lt-ltb a b l ∙ sym (lt-ltb c d (h.0 l))
  | no l ↦ let n : c < d → ⊥ = λ (k : c < d). l (h.1 k) in le-ltb a b (omega arith) ∙ sym (le-ltb c d (omega arith))
]

pub eqb-alike : (a b c d : ℕ) → (a ≡ b) ↔ (c ≡ d) → eqb a b ≡ eqb c d
eqb-alike a b c d h = elim (ℕ_discrete a b) [
  | yes e ↦ eq-eqb a b e ∙ sym (eq-eqb c d (h.0 e))
  | no e ↦ ne_eqb a b e ∙ sym (ne_eqb c d (λ (k : c ≡ d). e (h.1 k)))
]

-- Labels are compared word by word. The highest of the thirteen digits of a lower word is 0.
thirteen : (n x y : ℕ) → n < 2 ^ 60 → x < 2 ^ 60 → y < 2 ^ 60
    → as_much (label_of 13 n) (label_of 13 x) (label_of 13 y) ≡ as_much (label_of 12 n) (label_of 12 x) (label_of 12 y)
thirteen n x y d e f = simp (add-zero, and-true, as-much-none 1 0 0) at (as-much-words 12 1 n x y 0 0 0 d e f)

module _ (names a b : Label) where
  pub as-much-codes : as_much (bag (code names)) (bag (code a)) (bag (code b))
      ≡ as_much (label_of 13 (names.lower % 2 ^ 60)) (label_of 13 (a.lower % 2 ^ 60)) (label_of 13 (b.lower % 2 ^ 60))
      && as_much (label_of 13 names.upper) (label_of 13 a.upper) (label_of 13 b.upper)
  unfolding code
  as-much-codes =
      let n = names.lower % 2 ^ 60 in
      let x = a.lower % 2 ^ 60 in
      let y = b.lower % 2 ^ 60 in
      rw (thirteen n x y (omega arith) (omega arith) (omega arith))
      (as-much-words 12 13 n x y names.upper a.upper b.upper (omega arith) (omega arith) (omega arith))

pub inside-codes : (a b : Label) → inside (bag (code a)) (bag (code b))
    ≡ inside (label_of 13 (a.lower % 2 ^ 60)) (label_of 13 (b.lower % 2 ^ 60)) && inside (label_of 13 a.upper) (label_of 13 b.upper)
inside-codes a b =
    inside-as-much 25 (code a) (code b) ∙ as-much-codes a a b
    ∙ sym (ap₂ ◌&&◌ (inside-as-much 13 (a.lower % 2 ^ 60) (b.lower % 2 ^ 60)) (inside-as-much 13 a.upper b.upper))
