-- `layout::laying::carry` meets its contract: the labels are copied with their words. Assumes nothing.
use Prim.Native.Nat.{◌+◌, ◌-◌, ◌*◌}
use native.Mathlib.Omega.{arith}
use Rattle.areas.proofs.Held.{length-held}
use Rattle.layout.proofs.Carries.{carried}
use Rattle.layout.proofs.laying.carry.Goals as goal

pub overflow_mul-first : goal.overflow_mul-first
overflow_mul-first c = omega (arith, length-held c.args.work.now)

pub overflow_mul-count : goal.overflow_mul-count
overflow_mul-count c = omega (arith, length-held c.args.work.now)

pub overflow_add-first : goal.overflow_add-first
overflow_add-first c = omega (arith, length-held c.args.work.now)

pub overflow_mul-to : goal.overflow_mul-to
overflow_mul-to c = omega (arith, length-held c.args.work.now)

pub copy_within-requires-clause-in_bounds : goal.copy_within-requires-clause-in_bounds
copy_within-requires-clause-in_bounds c = omega (arith, length-held c.args.work.now)

pub copy_within-requires-clause-dest_in_bounds : goal.copy_within-requires-clause-dest_in_bounds
copy_within-requires-clause-dest_in_bounds c = omega (arith, length-held c.args.work.now)

pub returns : goal.returns
returns c =
    let a = c.args in
    let n = 2 * a.from + 2 * a.count - 2 * a.from in
    carried a.from a.to a.count n a.work.now c.copy_within.ensures.after (omega arith) c.requires.0 c.requires.1
