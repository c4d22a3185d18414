-- Any two results that meet a promise are equal, where the promise is not an equation on the result itself.
-- Assumes nothing.
use mathlib.Core.Path.{◌≡◌}
use mathlib.Core.List.{List}
use Prim.Native.Nat.{ℕ}
use Rattle.meaning.proofs.Alike.{alike}
use Rattle.areas.specs.Rows.{held}

-- Two rows that both hold certain labels hold the same.
pub held-unique : (words₁ words₂ ls : List ℕ) → held words₁ ≡ ls → held words₂ ≡ ls → held words₁ ≡ held words₂
held-unique words₁ words₂ ls p q = alike p q
