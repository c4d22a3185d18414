-- `layout::laying::movable` meets its contract. Assumes nothing.
use mathlib.Core.Logic.{◌⊎◌, inl, inr, ⊎_elim}
use Prim.Native.Nat.{◌≤◌}
use native.Mathlib.Omega.{arith}
use borrow.Author.Tests.{le-leb, leb-true, leb-false}
use Rattle.layout.specs.Laying.{Movable}
use Rattle.layout.proofs.Growths.{denies, affirms}
use Rattle.layout.proofs.laying.movable.Goals as goal
use Rattle.layout.proofs.laying.movable.Goals.{Else-end-at-2}

pub returns-then-set : goal.returns-then-set
returns-then-set c = denies (λ m. omega (arith, c.if-set.true, m.upright))

pub returns-then-limit-set : goal.returns-then-limit-set
returns-then-limit-set c = denies (λ m. omega (arith, c.if-limit-set.true, m.there))

pub returns-then-end-at : goal.returns-then-end-at
returns-then-end-at c = denies (λ m. omega (arith, c.if-end-at.true, m.fits))

pub returns-then-end-at-2 : goal.returns-then-end-at-2
returns-then-end-at-2 c = denies (λ m. omega (arith, c.if-end-at-2.true, m.fits))

-- what the four tests before the last say
movable : (c : Else-end-at-2) → let a = c.args in
    (a.set.to ≤ a.start) ⊎ (a.end ≤ a.set.from) → Movable a.start a.end a.at a.set a.limit
movable c o =
    record {
      upright = c.if-set.false;
      there = c.if-limit-set.false;
      fits = omega (arith, c.if-end-at-2.false, c.if-end-at.false);
      outside = o;
    }

pub returns-then-set-start : goal.returns-then-set-start
returns-then-set-start c = let h = c.if-set-start.true in affirms (le-leb _ _ h) (movable (goal.at.returns-then-set-start c).Else-end-at-2 (inl h))

pub returns-else-set-start : goal.returns-else-set-start
returns-else-set-start c =
    let a = c.args in
    record {
      yes = λ e. movable (goal.at.returns-else-set-start c).Else-end-at-2 (inr (leb-true a.end a.set.from e));
      no = λ e m. ⊎_elim (λ o. omega (arith, c.if-set-start.false)) (λ o. omega (arith, leb-false a.end a.set.from e)) m.outside;
    }
