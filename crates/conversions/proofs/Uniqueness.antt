-- A conversion settles what it comes to and every word of the area.
-- Assumes nothing.
use mathlib.Core.Path.{◌≡◌, refl, sym, ◌∙◌}
use mathlib.Core.List.{List}
use Prim.Native.Nat.{ℕ}
use native.Mathlib.Omega.{arith}
use Rattle.std.specs.Prelude.{Result, Ok, Err}
use Rattle.conversions.specs.declared.ConversionError.{ConversionError}
use Rattle.conversions.specs.declared.ConversionError.TheVariants.{TooShort, UpperInUse}
use Rattle.conversions.specs.Conversions.{Converted, number_of}

pub converted-unique : {answer : ℕ} {given area area₁ area₂ : List ℕ} {r₁ r₂ : ℕ} → Converted answer given area area₁ r₁
    → Converted answer given area area₂ r₂ → (r₁ ≡ r₂) × (area₁ ≡ area₂)
converted-unique p q = (p.answers ∙ sym q.answers, p.areas ∙ sym q.areas)

-- No two of what it may come to have one number.
numbers_apart : (r₁ r₂ : Result (Unit {0}) ConversionError) → number_of r₁ ≡ number_of r₂ → r₁ ≡ r₂
numbers_apart (Ok a) (Ok b) e = refl
numbers_apart (Ok a) (Err TooShort) e = absurd (omega (arith, e))
numbers_apart (Ok a) (Err UpperInUse) e = absurd (omega (arith, e))
numbers_apart (Err TooShort) (Ok b) e = absurd (omega (arith, e))
numbers_apart (Err TooShort) (Err TooShort) e = refl
numbers_apart (Err TooShort) (Err UpperInUse) e = absurd (omega (arith, e))
numbers_apart (Err UpperInUse) (Ok b) e = absurd (omega (arith, e))
numbers_apart (Err UpperInUse) (Err TooShort) e = absurd (omega (arith, e))
numbers_apart (Err UpperInUse) (Err UpperInUse) e = refl

pub outcome-unique : {answer : ℕ} {given area area₁ area₂ : List ℕ} (r₁ r₂ : Result (Unit {0}) ConversionError)
    → Converted answer given area area₁ (number_of r₁) → Converted answer given area area₂ (number_of r₂) → (r₁ ≡ r₂) × (area₁ ≡ area₂)
outcome-unique r₁ r₂ p q = let one = converted-unique p q in (numbers_apart r₁ r₂ one.0, one.1)
