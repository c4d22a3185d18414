-- `layout::laying::move_set` meets its contract. Assumes nothing.
use mathlib.Core.Path.{refl}
use native.Mathlib.Omega.{arith}
use borrow.Author.Tests.{not-true, not-false}
use Rattle.layout.specs.Laying.{Movable}
use Rattle.layout.proofs.Growths.{copied, unmoved, moved-set}
use Rattle.layout.proofs.laying.move_set.Goals as goal
use Rattle.layout.proofs.laying.move_set.Goals.{Else-not-movable}

pub part_at-set-requires : goal.part_at-set-requires
part_at-set-requires c = tt

pub labels_in-requires : goal.labels_in-requires
labels_in-requires c = tt

pub movable-requires : goal.movable-requires
movable-requires c = tt

pub shape_of-work-then-not-movable : goal.shape_of-work-then-not-movable
shape_of-work-then-not-movable c = refl

pub shape_of-sets-then-not-movable : goal.shape_of-sets-then-not-movable
shape_of-sets-then-not-movable c = refl

pub returns-then-not-movable : goal.returns-then-not-movable
returns-then-not-movable c =
    unmoved c.part_at-set.ensures c.labels_in.ensures c.movable.ensures (not-true _ c.if-not-movable.true-raw)
    c.requires.1

-- the set can be moved
moves : (c : Else-not-movable) → let a = c.args in
    Movable a.start a.end a.at c.part_at-set.result c.labels_in.result
moves c = c.movable.ensures.yes (not-false _ c.if-not-movable.false-raw)

pub overflow_sub-to : goal.overflow_sub-to
overflow_sub-to c = (moves (goal.at.overflow_sub-to c).Else-not-movable).upright

pub overflow_add-to : goal.overflow_add-to
overflow_add-to c = omega (arith, (moves (goal.at.overflow_add-to c).Else-not-movable).fits)

pub overflow_sub-set : goal.overflow_sub-set
overflow_sub-set c = (moves (goal.at.overflow_sub-set c).Else-not-movable).upright

pub carry-requires : goal.carry-requires
carry-requires c =
    let p = c.requires in
    let copies = copied (moves (goal.at.carry-requires c).Else-not-movable) c.labels_in.ensures p.0 p.2 in
    (copies.1, copies.2)

pub set_part-requires : goal.set_part-requires
set_part-requires c = tt

pub returns : goal.returns
returns c =
    let p = c.requires in
    moved-set c.part_at-set.ensures (moves (goal.at.returns c).Else-not-movable) p.0 p.2 c.carry.ensures c.set_part.ensures

pub shape_of-work : goal.shape_of-work
shape_of-work c = c.carry.auto.work

pub shape_of-sets : goal.shape_of-sets
shape_of-sets c = (returns c).long_row
