use mathlib.Core.Path.{refl}
use native.Mathlib.Omega.{arith}
use Rattle.std.proofs.lemmas.Result.{err_from_is_err_and}
use Rattle.heads.proofs.NameLines.{names-start, names-long, names-step, names-halt, names-end}
use Rattle.heads.proofs.read_names.Goals as goal

pub loop-i-init : goal.loop-i-init
loop-i-init c = names-start _ _ _

pub slice_bounds-take_name-end-in-loop-i : goal.slice_bounds-take_name-end-in-loop-i
slice_bounds-take_name-end-in-loop-i c = omega (arith, names-long c.loop-i.invariant, c.requires)

pub shape_of-table-in_err-name : goal.shape_of-table-in_err-name
shape_of-table-in_err-name c = names-long c.loop-i.invariant

pub returns-in_err-name : goal.returns-in_err-name
returns-in_err-name c =
    let pre = c.requires in
    let p = err_from_is_err_and c.from_residual.result c.from_residual.ensures.1 in
    rw (p.1, p.2) (names-halt c.loop-i.invariant pre.0 pre.1 c.loop-i-test.true c.in_err-name.ensures refl)

pub bounds-table-end : goal.bounds-table-end
bounds-table-end c =
    omega (arith, names-long c.loop-i.invariant, c.requires)

pub loop-i-preserved : goal.loop-i-preserved
loop-i-preserved c =
    let pre = c.requires in
    names-step c.loop-i.invariant pre.0 pre.1 c.loop-i-test.true c.in_ok-name.ensures refl (omega arith)

pub shape_of-table : goal.shape_of-table
shape_of-table c = names-long c.loop-i.invariant

pub returns : goal.returns
returns c = let pre = c.requires in names-end c.loop-i.invariant pre.0 pre.1 c.loop-i-test.false
