use mathlib.Core.Path.{refl}
use native.Mathlib.Omega.{arith}
use Rattle.std.proofs.lemmas.Result.{err_from_is_err_and}
use Rattle.feet.proofs.BodyLines.{bodies-start, bodies-long, bodies-step, bodies-halt, bodies-end}
use Rattle.feet.proofs.read_bodies.Goals as goal

pub loop-i-init : goal.loop-i-init
loop-i-init c = bodies-start _ _ _ _ _

pub shape_of-table-in_err-body : goal.shape_of-table-in_err-body
shape_of-table-in_err-body c = bodies-long c.loop-i.invariant

pub returns-in_err-body : goal.returns-in_err-body
returns-in_err-body c =
    let p = err_from_is_err_and c.from_residual.result c.from_residual.ensures.1 in
    rw (p.1, p.2) (bodies-halt c.loop-i.invariant c.requires.1 c.loop-i-test.true c.in_err-body.ensures refl)

pub bounds-table-i : goal.bounds-table-i
bounds-table-i c =
    omega (arith, bodies-long c.loop-i.invariant, c.requires)

pub loop-i-preserved : goal.loop-i-preserved
loop-i-preserved c =
    bodies-step c.loop-i.invariant c.requires.1 c.loop-i-test.true c.in_ok-body.ensures refl

pub shape_of-table : goal.shape_of-table
shape_of-table c = bodies-long c.loop-i.invariant

pub returns : goal.returns
returns c = bodies-end c.loop-i.invariant c.requires.1 c.loop-i-test.false
