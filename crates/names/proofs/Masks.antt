-- A digit of five bits masked away from a word: the word without that digit at its place.
-- Assumes nothing.
use mathlib.Core.Path.{◌≡◌, sym, ap, ap₂, ◌∙◌}
use Prim.Native.Nat.{ℕ, ◌+◌, ◌*◌, ◌-◌, ◌/◌, ◌%◌, ◌^◌, ◌≤◌, ◌<◌}
use native.Mathlib.Nat.{add-mul, mod-lt, mod-eq_of_lt}
use native.Mathlib.Omega.{arith}
use lib.Dec.{lit<}
use lib.Bits.{bit_and, and_block, and_mask, and_high}
use lib.Pow.{pow-add, pow_pos, pow_mono, shl_exact, shr_lt, shr_mod, split, ones_lt}

-- What is above the digit and what is below it are kept: the mask has j bits above the digit, and d below.
kept_above : (j d : ℕ) → 2 ^ (j + 5 + d) - 1 - 31 * 2 ^ d ≡ (2 ^ (j + 5) - 2 ^ 5) * 2 ^ d + (2 ^ d - 1)
kept_above j d =
    let most = pow_mono {i = 5} {j = j + 5} (omega arith) in
    let whole = add-mul (2 ^ (j + 5) - 2 ^ 5) (2 ^ 5) (2 ^ d) in
    let all : 2 ^ (j + 5) - 2 ^ 5 + 2 ^ 5 ≡ 2 ^ (j + 5) = omega arith in
    omega (arith, pow-add 2 (j + 5) d, rw all at whole, pow_pos d)

cut : (j d w : ℕ) → w < 2 ^ (j + 5 + d) → bit_and w (2 ^ (j + 5 + d) - 1 - 31 * 2 ^ d) ≡ w / 2 ^ d / 32 * 32 * 2 ^ d + w % 2 ^ d
cut j d w h =
    ap₂ bit_and (sym (split w d)) (kept_above j d)
    ∙ and_block d (w / 2 ^ d) (2 ^ (j + 5) - 2 ^ 5) (w % 2 ^ d) (2 ^ d - 1) (mod-lt w (pow_pos d)) (ones_lt d)
    ∙ ap₂ (λ (x y : ℕ). x * 2 ^ d + y)
    (and_high (w / 2 ^ d) j 5 ∙ ap (λ (x : ℕ). x * 32) (shr_mod {n = w / 2 ^ d} j 5 (shr_lt {n = w} (j + 5) d h)))
    (and_mask (w % 2 ^ d) d ∙ mod-eq_of_lt (mod-lt w (pow_pos d)))

-- A word and the digit at d: what the mask leaves, and the digit at its place, are the word.
pub masked : (d width w : ℕ) → 5 + d ≤ width → width ≤ 64 → w < 2 ^ width
    → bit_and w (2 ^ width - 1 - (31 * 2 ^ d) % 2 ^ 64) + w / 2 ^ d % 32 * 2 ^ d ≡ w
masked d width w h k small =
    let above : width ≡ width - 5 - d + 5 + d = omega arith in
    let whole = add-mul (w / 2 ^ d / 32 * 32) (w / 2 ^ d % 32) (2 ^ d) in
    let digits : w / 2 ^ d / 32 * 32 + w / 2 ^ d % 32 ≡ w / 2 ^ d = omega arith in
    let left = cut (width - 5 - d) d w (rw (← above) small) in
    rw (shl_exact {a = 31} 5 d 64 (lit< tt) (omega arith)) (omega (arith, rw (← above) at left, rw digits at whole, split w d))
