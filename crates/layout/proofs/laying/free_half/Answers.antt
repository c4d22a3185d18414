-- `layout::laying::free_half` meets its contract. Assumes nothing.
use mathlib.Core.Path.{refl, ap}
use mathlib.Core.Logic.{inl, inr}
use native.Mathlib.Omega.{arith}
use Rattle.parts.specs.declared.Part.{Part}
use Rattle.layout.proofs.laying.free_half.Goals as goal

pub part_at-requires : goal.part_at-requires
part_at-requires c = tt

pub returns-then-part_at-half : goal.returns-then-part_at-half
returns-then-part_at-half c = inl (omega (arith, c.if-part_at-half.true, ap (λ (p : Part). p.from) c.part_at.ensures), refl)

pub returns-else-part_at-half : goal.returns-else-part_at-half
returns-else-part_at-half c = inr (omega (arith, c.if-part_at-half.false, ap (λ (p : Part). p.from) c.part_at.ensures), refl)
