use native.Mathlib.Omega.{arith}
use Rattle.areas.specs.Rows.{held}
use Rattle.parts.proofs.LaidSets.{length-set_at}
use Rattle.union_costs.proofs.moved_by_insertions.Goals as goal

pub overflow_sub-moved : goal.overflow_sub-moved
overflow_sub-moved c =
    let a = c.args in
    omega (arith, c.place-p.ensures.within, length-set_at a.at c.loop-len.len (held c.loop-len.words))
