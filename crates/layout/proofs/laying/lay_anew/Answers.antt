use mathlib.Core.Path.{refl, ◌∙◌}
use mathlib.Core.Logic.{⊎_elim}
use native.Mathlib.Omega.{arith}
use lib.Dec.{eqb}
use Rattle.areas.proofs.Held.{length-held}
use Rattle.layout.proofs.Layings.{planned, plan-within, pick_small, anew-within, anew-start, anew-step, anew-end}
use Rattle.layout.proofs.laying.lay_anew.Goals as goal

pub overflow_add-end : goal.overflow_add-end
overflow_add-end c =
    let g = c.well_formed.0.1 in
    let l = c.labels_in-half.ensures ∙ length-held c.args.work.now in
    ⊎_elim (λ w. omega (arith, w.1)) (λ w. omega (arith, w.1)) c.free_half-start.ensures

pub loop-t-init : goal.loop-t-init
loop-t-init c = (
  anew-start (planned c.requires c.labels_in-half.ensures c.gap_behind-gap.ensures
      c.free_half-start.ensures),
  refl,
)

pub move_set-requires : goal.move_set-requires
move_set-requires c = anew-within c.loop-t.invariant.0

pub room_after-requires : goal.room_after-requires
room_after-requires c =
    let p = c.loop-t.invariant.0.plan in
    omega (arith, plan-within p, p.few, c.well_formed.0.1, length-held c.args.work.now)

pub overflow_add-at : goal.overflow_add-at
overflow_add-at c =
    let p = c.loop-t.invariant.0.plan in
    let small = pick_small (eqb c.loop-t.t c.args.n) c.args.more in
    let moved = c.move_set in
    omega (arith, plan-within p, p.few, c.well_formed.0.1, length-held c.args.work.now, moved.ensures.within, c.room_after.ensures)

pub loop-t-preserved : goal.loop-t-preserved
loop-t-preserved c =
    let inv = c.loop-t.invariant in
    let moved = c.move_set in
    (anew-step inv.0 c.loop-t-test.true moved.ensures c.room_after.ensures, moved.auto.work ∙ inv.1)

pub returns : goal.returns
returns c =
    anew-end c.loop-t.invariant.0 c.loop-t-test.false c.set_part.ensures

pub shape_of-work : goal.shape_of-work
shape_of-work c = c.loop-t.invariant.1

pub shape_of-sets : goal.shape_of-sets
shape_of-sets c = (returns c).long_row
