-- A number shifted up in a word by so many bits again and again: the bytes of a name.
-- Assumes nothing.
use mathlib.Core.Path.{◌≡◌, ap, ◌∙◌}
use Prim.Native.Nat.{ℕ, ◌*◌, ◌%◌, ◌^◌, ◌<◌}
use native.Mathlib.Nat.{mod-eq_of_lt}
use Rattle.labels.proofs.Words.{pow-mul}

-- as long as it stays in the word, the shift is a factor
pub shift-pow : (bits x n : ℕ) → x * (2 ^ bits) ^ n < 2 ^ 64 → (x * 2 ^ (bits * n)) % 2 ^ 64 ≡ x * (2 ^ bits) ^ n
shift-pow bits x n h = ap (λ (p : ℕ). (x * p) % 2 ^ 64) (pow-mul bits n) ∙ mod-eq_of_lt h
