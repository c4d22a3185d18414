-- `areas::rows::move_up` meets its contract. Assumes nothing.
use native.Mathlib.Omega.{arith}
use borrow.Author.Tests.{ltb-true}
use Rattle.areas.specs.Rows.{held}
use Rattle.areas.proofs.Held.{length-held}
use Rattle.areas.proofs.Moves.{moved_up-past, moved_up-none, held_moved}
use Rattle.areas.proofs.rows.move_up.Goals as goal

pub overflow_mul-end : goal.overflow_mul-end
overflow_mul-end c = omega (arith, ltb-true)

pub overflow_add-end : goal.overflow_add-end
overflow_add-end c = omega (arith, ltb-true)

pub overflow_mul-from : goal.overflow_mul-from
overflow_mul-from c = omega (arith, ltb-true)

pub offset_bounds-words-from : goal.offset_bounds-words-from
offset_bounds-words-from c = omega (arith, ltb-true)

pub slice_bounds-shift_up-end : goal.slice_bounds-shift_up-end
slice_bounds-shift_up-end c = omega (arith, ltb-true)

pub returns-then-to-words : goal.returns-then-to-words
returns-then-to-words c =
    let a = c.args in
    held_moved a.from a.to a.words.now c.shift_up.new.words c.if-from-to.true c.if-to-words.true
    c.shift_up.ensures

pub returns-else-from-to : goal.returns-else-from-to
returns-else-from-to c =
    let a = c.args in
    let ws = a.words.now in
    elim c.else-from-to.branch [
      | goal.else-from-to-via-then-from-to+else-to-words w ↦ moved_up-past a.from a.to (held ws)
          (omega (arith, length-held ws, w.if-to-words.false))
      | goal.else-from-to-via-else-from-to w ↦ moved_up-none a.from a.to (held ws) w.if-from-to.false
    ]
