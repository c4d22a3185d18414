-- The size of a number's bag, by a division: 32 is 1 modulo 31, so that a number and the sum of its digits leave the same remainder.
-- Assumes nothing.
use Rattle.std.proofs.Common.{◌≡◌, ℕ, ◌+◌, ◌-◌, ◌*◌, ◌/◌, ◌%◌, ◌^◌, ◌<◌, ◌≤◌, ◌↔◌, [], ◌∷◌, refl, ◌∙◌, arith, le-leb}
use native.Mathlib.Decide.{dec_lt, dec_le}
use borrow.Author.Tests.{lt-leb}
use Rattle.meaning.specs.Labels.{number, size}
use Rattle.meaning.specs.Labels as meaning
use Rattle.labels.specs.declared.Label.{Label}
use Rattle.labels.specs.Packing.{code}
use Rattle.labels.specs.Bags.{bag, folded, size_of}
use Rattle.labels.proofs.Words.{number-bag}

pub folded-few : (s : ℕ) → s ≤ 31 → folded s ≡ s
folded-few s h = rw (le-leb s 31 h)

folded-all : (s : ℕ) → folded s ≡ s - 31 * ((s - 1) / 31)
folded-all s = elim (dec_le s 31) [
  | yes h ↦ folded-few s h ∙ omega arith
  | no h ↦ rw (lt-leb s 31 (omega arith))
]

-- A number is its digit sum and a multiple of 31.
number_digits : (a : meaning.Label) → (k : ℕ) × (number a ≡ size a + 31 * k)
unfolding number size
number_digits [] = (0, refl)
number_digits (x ∷ a) = let p = number_digits a in (size a + 32 * p.0, omega (arith, p.1))

pub number-zero : (a : meaning.Label) → (size a ≡ 0) ↔ (number a ≡ 0)
unfolding number size
number-zero [] = (λ h. refl, λ h. refl)
number-zero (x ∷ a) =
    let ih = number-zero a in
    (λ h. let e = ih.0 (omega arith) in omega arith, λ h. let e = ih.1 (omega arith) in omega arith)

pub size_few : (w : ℕ) → size_of w ≤ 31
unfolding size_of
size_few w = let s = size (bag w) in rw (folded-all s) (omega arith)

-- The size of a number, by the number alone.
size_word : (w : ℕ) → w < 2 ^ 124 → size_of w ≡ w - 31 * ((w - 1) / 31)
unfolding size_of
size_word w h =
    let s = size (bag w) in
    let p = number_digits (bag w) in
    let e = number-bag w h in
    elim (dec_lt 0 s) [
      | yes l ↦ folded-all s ∙ omega (arith, p.1)
      | no l ↦ let z = (number-zero (bag w)).0 (omega arith) in folded-all s ∙ omega arith
    ]

-- The same of two words, by what they are together, the upper one taken as two numbers of 60 bits: 2 to the power 60 is 1 modulo 31.
folded-alike : (w total more : ℕ) → w ≡ total + 31 * more → (total ≡ 0 → w ≡ 0) → w - 31 * ((w - 1) / 31) ≡ total - 31 * ((total - 1) / 31)
folded-alike w total more e z = elim (dec_lt 0 total) [
  | yes l ↦ omega arith
  | no l ↦ omega (arith, z (omega arith))
]

together : (lower upper : ℕ) → lower + 2 ^ 60 * upper ≡ lower + upper % 2 ^ 60 + upper / 2 ^ 60 + 31 * ((2 ^ 60 - 1) / 31 * (upper + upper / 2 ^ 60))
together lower upper = omega arith

none-together : (lower upper : ℕ) → lower + upper % 2 ^ 60 + upper / 2 ^ 60 ≡ 0 → lower + 2 ^ 60 * upper ≡ 0
none-together lower upper z =
    let l : lower ≡ 0 = omega arith in
    let u : upper ≡ 0 = omega arith in
    rw (l, u)

-- by the remainder, of which 0 stands for 31 unless all is 0
folded-rest : (t : ℕ)
    → (t ≡ 0 → 0 ≡ t - 31 * ((t - 1) / 31))
    × ((t ≡ 0 → ⊥) → t % 31 ≡ 0 → 31 ≡ t - 31 * ((t - 1) / 31))
    × ((t % 31 ≡ 0 → ⊥) → t % 31 ≡ t - 31 * ((t - 1) / 31))
folded-rest t = omega arith

module _ (a : Label) (h : a.upper < 2 ^ 64) where
  abbrev total : ℕ
  total = a.lower % 2 ^ 60 + a.upper % 2 ^ 60 + a.upper / 2 ^ 60

  pub size-words : (total ≡ 0 → 0 ≡ size_of (code a))
      × ((total ≡ 0 → ⊥) → total % 31 ≡ 0 → 31 ≡ size_of (code a))
      × ((total % 31 ≡ 0 → ⊥) → total % 31 ≡ size_of (code a))
  unfolding code
  size-words =
      let l = a.lower % 2 ^ 60 in
      let u = a.upper in
      rw (size_word (l + 2 ^ 60 * u) (omega arith), folded-alike _ _ _ (together l u) (none-together l u)) (folded-rest total)
