-- Any two counts that meet the promise are equal.
-- Assumes nothing.
use mathlib.Core.Path.{◌≡◌}
use Prim.Native.Nat.{ℕ}
use Rattle.meaning.proofs.Alike.{alike}
use Rattle.names.specs.Names.{Counted}

pub counted-unique : (w n r₁ r₂ : ℕ) → Counted w n r₁ → Counted w n r₂ → r₁ ≡ r₂
counted-unique w n r₁ r₂ p q = alike p.exact q.exact
