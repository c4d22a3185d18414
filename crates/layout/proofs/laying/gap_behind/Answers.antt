-- `layout::laying::gap_behind` meets its contract. Assumes nothing.
use mathlib.Core.Path.{refl}
use Prim.Native.Nat.{◌-◌}
use native.Mathlib.Nat.{div-le_self}
use native.Mathlib.Omega.{arith}
use borrow.Author.Tests.{eqb-false}
use Rattle.layout.proofs.laying.gap_behind.Goals as goal

pub returns-then-half-total : goal.returns-then-half-total
returns-then-half-total c =
    let a = c.args in
    record {
      small = omega arith;
      share = λ h k. absurd (elim c.then-half-total.branch [
        | goal.then-half-total-via-then-half-total w ↦ omega arith
        | goal.then-half-total-via-else-half-total+then-terms-eq0 w ↦ omega arith
      ]);
    }

pub nonzero_div-result : goal.nonzero_div-result
nonzero_div-result c = omega (arith, eqb-false c.args.terms 0 c.if-terms-eq0.false-raw)

pub returns : goal.returns
returns c =
    let a = c.args in
    record { small = omega (arith, div-le_self (a.half - a.total) a.terms); share = λ h k. refl }
