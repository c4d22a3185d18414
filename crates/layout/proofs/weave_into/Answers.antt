-- `layout::weave_into` meets its contract. Assumes nothing.
use mathlib.Core.Path.{refl}
use Prim.Native.Nat.{◌+◌, ◌-◌, ◌≤◌}
use native.Mathlib.Omega.{arith}
use borrow.Author.Tests.{ltb-false}
use Rattle.areas.proofs.Held.{length-held}
use Rattle.layout.proofs.Growths.{unwoven, woven-set}
use Rattle.layout.proofs.weave_into.Goals as goal
use Rattle.layout.proofs.weave_into.Goals.{Else-end-set-2}

pub part_at-set-requires : goal.part_at-set-requires
part_at-set-requires c = tt

pub labels_in-end-requires : goal.labels_in-end-requires
labels_in-end-requires c = tt

pub labels_in-count-requires : goal.labels_in-count-requires
labels_in-count-requires c = tt

pub overflow_sub-end : goal.overflow_sub-end
overflow_sub-end c = ltb-false _ _ c.if-end-set.false-raw

pub shape_of-work-then-set : goal.shape_of-work-then-set
shape_of-work-then-set c = refl

pub shape_of-sets-then-set : goal.shape_of-sets-then-set
shape_of-sets-then-set c = refl

pub returns-then-set : goal.returns-then-set
returns-then-set c =
    let set = c.part_at-set in
    let end = c.labels_in-end in
    let count = c.labels_in-count in
    let e = end.ensures in
    let k = count.ensures in
    unwoven set.ensures (λ u f. elim c.then-set.branch [
      | goal.then-set-via-then-set w ↦ omega arith
      | goal.then-set-via-else-set+then-end-set w ↦ omega arith
      | goal.then-set-via-else-set+else-end-set+then-end-set-2 w ↦ omega arith
    ])

-- the set has room in the words
fits : (c : Else-end-set-2) → let set = c.part_at-set.result in
    (set.from ≤ set.to) × (set.to + c.labels_in-count.result
    ≤ c.labels_in-end.result)
fits c =
    let count = c.labels_in-count.result in
    let end = c.labels_in-end.result in
    let set = c.part_at-set.result in (
      c.if-set.false,
      omega (arith, ltb-false (end - set.to) count c.if-end-set-2.false-raw, ltb-false end set.to c.if-end-set.false-raw),
    )

pub put_between-requires : goal.put_between-requires
put_between-requires c =
    let f = fits (goal.at.put_between-requires c).Else-end-set-2 in
    (f.0, omega (arith, f.1, c.labels_in-count.ensures, c.labels_in-end.ensures))

pub overflow_add-set : goal.overflow_add-set
overflow_add-set c =
    omega (arith, (fits (goal.at.overflow_add-set c).Else-end-set-2).1, c.labels_in-end.ensures, c.well_formed.0.0, length-held c.args.work.now)

pub set_part-requires : goal.set_part-requires
set_part-requires c = tt

pub returns : goal.returns
returns c =
    woven-set c.part_at-set.ensures c.put_between.ensures c.labels_in-count.ensures c.set_part.ensures

pub shape_of-work : goal.shape_of-work
shape_of-work c = c.put_between.auto.work

pub shape_of-sets : goal.shape_of-sets
shape_of-sets c = (returns c).long_row
