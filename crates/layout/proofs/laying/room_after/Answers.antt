-- `layout::laying::room_after` meets its contract. Assumes nothing.
use native.Mathlib.Omega.{arith}
use borrow.Author.Tests.{eq-eqb, ne_eqb}
use Rattle.layout.proofs.laying.room_after.Goals as goal

pub overflow_add-result : goal.overflow_add-result
overflow_add-result c = omega (arith, c.requires)

pub returns-then-t-n : goal.returns-then-t-n
returns-then-t-n c = let a = c.args in rw (eq-eqb a.t a.n c.if-t-n.true)

pub returns : goal.returns
returns c = let a = c.args in rw (ne_eqb a.t a.n c.if-t-n.false) (omega arith)
