-- A kind and its numbers packed in a word and taken out again: the kind is kept, and small numbers are.
-- Assumes nothing.
use mathlib.Core.Path.{◌≡◌}
use Prim.Native.Nat.{ℕ, ◌/◌, ◌%◌, ◌<◌}
use native.Mathlib.Omega.{arith}
use Rattle.slots.specs.Packing.{packed_term, kind_term, word_term}

-- The kind and the numbers of a packed word, and the term that they make.
module _ (n k t u entries : ℕ) (h : k < 32) where
  kind-of : packed_term k t u entries % 32 ≡ k
  unfolding packed_term
  kind-of = omega arith

  first_of : packed_term k t u entries / 32 % 65536 ≡ t % 65536
  unfolding packed_term
  first_of = omega arith

  second-of : packed_term k t u entries / 2097152 % 65536 ≡ u % 65536
  unfolding packed_term
  second-of = omega arith

  third_of : packed_term k t u entries / 137438953472 % 65536 ≡ entries % 65536
  unfolding packed_term
  third_of = omega arith

  word_term-packed : word_term n (packed_term k t u entries) ≡ kind_term n k (t % 65536) (u % 65536) (entries % 65536)
  unfolding word_term
  word_term-packed = rw (kind-of, first_of, second-of, third_of)

  -- numbers of 16 bits come back whole
  pub word_term-small : t < 65536 → u < 65536 → entries < 65536 → word_term n (packed_term k t u entries) ≡ kind_term n k t u entries
  word_term-small a b c =
      let x : t % 65536 ≡ t = omega arith in
      let y : u % 65536 ≡ u = omega arith in
      let z : entries % 65536 ≡ entries = omega arith in
      rw (word_term-packed, x, y, z)
