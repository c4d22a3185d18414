-- Names packed in a word: the first byte and those behind it, and how many there are.
-- Assumes nothing.
use mathlib.Core.Path.{◌≡◌, refl, sym, ap, ◌∙◌}
use mathlib.Core.List.{[], ◌∷◌}
use Prim.Native.Nat.{ℕ, zero, suc, ◌+◌, ◌-◌, ◌/◌, ◌%◌, ◌^◌, ◌≤◌, ◌<◌, zero-le}
use native.Mathlib.Nat.{pow-suc, div-lt_iff_lt-mul}
use native.Mathlib.Omega.{arith}
use native.Mathlib.Decide.{ℕ_discrete}
use borrow.Author.Tests.{eq-eqb, ne_eqb}
use lib.Dec.{lit<}
use lib.ListN.{length}
use Rattle.meaning.specs.Bytes.{Text}
use Rattle.table.specs.Decoded.{name_of}

-- The two cases of the definition.
pub no_bytes : (k w : ℕ) → w ≡ 0 → name_of k w ≡ []
unfolding name_of
no_bytes zero w e = refl
no_bytes (suc k) w e = rw (eq-eqb w 0 e, name_of)

pub first_byte : (k w : ℕ) → (w ≡ 0 → ⊥) → name_of (suc k) w ≡ w % 256 ∷ name_of k (w / 256)
unfolding name_of
first_byte k w h = rw (ne_eqb w 0 h, name_of)

-- The next of eight bytes, and those behind it.
pub next_byte : (at w : ℕ) → (w ≡ 0 → ⊥) → at < 8 → name_of (8 - at) w ≡ w % 256 ∷ name_of (8 - (at + 1)) (w / 256)
next_byte at w d h = let more : 8 - at ≡ suc (8 - (at + 1)) = omega arith in rw more (first_byte (8 - (at + 1)) w d)

-- Eight bytes are enough for a word: behind its first byte stand those of the rest, eight again.
bytes-more : (k w : ℕ) → w < 256 ^ k → name_of (suc k) w ≡ name_of k w
bytes-more zero w h = let z : w < 1 = h in let e : w ≡ 0 = omega arith in no_bytes 1 w e ∙ sym (no_bytes 0 w e)
bytes-more (suc k) w h =
    let rest : w / 256 < 256 ^ k = (div-lt_iff_lt-mul (lit< tt)).1 (rw (pow-suc 256 k) at h) in
    elim (ℕ_discrete w 0) [
      | yes e ↦ no_bytes (suc (suc k)) w e ∙ sym (no_bytes (suc k) w e)
      | no d ↦ rw (first_byte (suc k) w d, first_byte k w d, bytes-more k (w / 256) rest)
    ]

pub name-first : (w : ℕ) → (w ≡ 0 → ⊥) → w < 2 ^ 64 → name_of 8 w ≡ w % 256 ∷ name_of 8 (w / 256)
name-first w d fits =
    let rest : w / 256 < 256 ^ 7 = (div-lt_iff_lt-mul (lit< tt)).1 fits in
    first_byte 7 w d ∙ ap (λ (bs : Text). w % 256 ∷ bs) (sym (bytes-more 7 (w / 256) rest))

length-bytes : (k w : ℕ) → length (name_of k w) ≤ k
unfolding name_of
length-bytes zero w = zero-le
length-bytes (suc k) w =
    elim (ℕ_discrete w 0) [
      | yes e ↦ rw (no_bytes (suc k) w e) (omega arith)
      | no d ↦ rw (first_byte k w d) (omega (arith, length-bytes k (w / 256)))
    ]

pub length-name : (w : ℕ) → length (name_of 8 w) ≤ 8
length-name w = length-bytes 8 w
