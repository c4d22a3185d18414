use native.Mathlib.Omega.{arith}
use lib.ListN.{length-set}
use Rattle.keeping.proofs.Bringing.{bringing-start, bringing-room, bringing-step, bringing-end}
use Rattle.keeping.proofs.bring.Goals as goal

pub loop-i-init : goal.loop-i-init
loop-i-init c = bringing-start c.requires

pub overflow_add-from : goal.overflow_add-from
overflow_add-from c = let room = bringing-room c.loop-i.invariant c.loop-i-test.true in omega arith

pub overflow_mul-at : goal.overflow_mul-at
overflow_mul-at c = let room = bringing-room c.loop-i.invariant c.loop-i-test.true in omega arith

pub offset_bounds-work-at : goal.offset_bounds-work-at
offset_bounds-work-at c = let room = bringing-room c.loop-i.invariant c.loop-i-test.true in omega arith

pub bounds-work-at : goal.bounds-work-at
bounds-work-at c = let room = bringing-room c.loop-i.invariant c.loop-i-test.true in omega arith

pub overflow_add-work : goal.overflow_add-work
overflow_add-work c = let room = bringing-room c.loop-i.invariant c.loop-i-test.true in omega arith

pub offset_bounds-work-at-in-loop-i : goal.offset_bounds-work-at-in-loop-i
offset_bounds-work-at-in-loop-i c = let room = bringing-room c.loop-i.invariant c.loop-i-test.true in omega arith

pub bounds-work-at-in-loop-i : goal.bounds-work-at-in-loop-i
bounds-work-at-in-loop-i c = simp length-set (bringing-room c.loop-i.invariant c.loop-i-test.true).1

pub loop-i-preserved : goal.loop-i-preserved
loop-i-preserved c = bringing-step c.loop-i.invariant c.loop-i-test.true c.read_label-label.ensures

pub shape_of-work : goal.shape_of-work
shape_of-work c = c.loop-i.invariant.fill.same

pub returns : goal.returns
returns c = bringing-end c.loop-i.invariant (omega arith)
