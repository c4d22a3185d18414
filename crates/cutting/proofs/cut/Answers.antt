use Prim.Native.Nat.{◌+◌, ◌*◌, ◌<◌}
use native.Mathlib.Omega.{arith}
use lib.ListN.{length, length-set}
use Rattle.areas.specs.Rows.{held}
use Rattle.cutting.proofs.Cuts.{cut_short, cut-start, cut-room, cut-keep, cut-skip, cut-end}
use Rattle.cutting.proofs.cut.Goals as goal
use Rattle.cutting.proofs.cut.Goals.{Then-admitted}

pub returns-then-answer-end : goal.returns-then-answer-end
returns-then-answer-end c =
    let a = c.args in
    let e = cut_short a.all (held a.list.now) (held a.set.now) a.answer.now (omega arith) in
    record { words = e.0; count = e.1 }

pub loop-i-init : goal.loop-i-init
loop-i-init c = cut-start (omega arith)

-- there is room for a label that is allowed
room : (c : Then-admitted) → 2 * c.loop-i.n + 1 < length c.loop-i.answer
room c = cut-room c.loop-i.invariant (omega arith) c.read_label-label.ensures c.admitted.ensures c.if-admitted.true

pub overflow_mul-at : goal.overflow_mul-at
overflow_mul-at c = omega (arith, room (goal.at.overflow_mul-at c).Then-admitted)

pub offset_bounds-answer-at : goal.offset_bounds-answer-at
offset_bounds-answer-at c = omega (arith, room (goal.at.offset_bounds-answer-at c).Then-admitted)

pub bounds-answer-at : goal.bounds-answer-at
bounds-answer-at c = omega (arith, room (goal.at.bounds-answer-at c).Then-admitted)

pub overflow_add-answer : goal.overflow_add-answer
overflow_add-answer c = omega (arith, room (goal.at.overflow_add-answer c).Then-admitted)

pub offset_bounds-answer-at-then-admitted : goal.offset_bounds-answer-at-then-admitted
offset_bounds-answer-at-then-admitted c = omega (arith, room (goal.at.offset_bounds-answer-at-then-admitted c).Then-admitted)

pub bounds-answer-at-then-admitted : goal.bounds-answer-at-then-admitted
bounds-answer-at-then-admitted c = simp length-set (room (goal.at.bounds-answer-at-then-admitted c).Then-admitted)

pub overflow_add-n : goal.overflow_add-n
overflow_add-n c = omega (arith, room (goal.at.overflow_add-n c).Then-admitted)

pub loop-i-preserved : goal.loop-i-preserved
loop-i-preserved c =
    let so_far = c.loop-i.invariant in
    let read = c.read_label-label.ensures in
    let test = c.admitted.ensures in
    elim c.if-admitted.branch [
      | goal.then-admitted w ↦ rw (w.answer-is, w.n-is) (cut-keep so_far (omega arith) read test w.if-admitted.true)
      | goal.else-admitted w ↦ rw (w.answer-is, w.n-is) (cut-skip so_far (omega arith) read test w.if-admitted.false)
    ]

pub shape_of-answer : goal.shape_of-answer
shape_of-answer c = c.loop-i.invariant.fill.same

pub returns : goal.returns
returns c =
    let e = cut-end c.loop-i.invariant (omega arith) (omega arith) in
    record { words = e.0; count = e.1 }
