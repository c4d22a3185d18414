-- Whether an answer is refusal 7.
-- Assumes nothing.
use Rattle.std.specs.Prelude.{Ok, Err}
use mathlib.Core.Path.{◌≡◌, refl}
use mathlib.Core.Bool.{true, false}
use Prim.Native.Nat.{ℕ}
use native.Mathlib.Omega.{arith}
use Rattle.rimecutter.specs.declared.Refusal.TheVariants.{TooLong, Bad, TooLarge}
use Rattle.rimecutter.specs.Answers.{Answer, is_large}

pub untold : (a : Answer) → is_large a ≡ true → a ≡ Err TooLarge
untold (Err TooLarge) e = refl
untold (Err TooLong) e = let z : ◌≡◌ {A = ℕ} 0 1 = cc in absurd (omega arith)
untold (Err (Bad b)) e = let z : ◌≡◌ {A = ℕ} 0 1 = cc in absurd (omega arith)
untold (Ok l) e = let z : ◌≡◌ {A = ℕ} 0 1 = cc in absurd (omega arith)

pub told : (a : Answer) → is_large a ≡ false → a ≡ Err TooLarge → ⊥
told (Err TooLarge) e f = let z : ◌≡◌ {A = ℕ} 0 1 = cc in omega arith
told (Err TooLong) e f = let z : ◌≡◌ {A = ℕ} 0 1 = cc in omega arith
told (Err (Bad b)) e f = let z : ◌≡◌ {A = ℕ} 0 1 = cc in omega arith
told (Ok l) e f = let z : ◌≡◌ {A = ℕ} 0 1 = cc in omega arith
