-- `layout::grow` meets its contract. Assumes nothing.
use mathlib.Core.Path.{refl, ap, ◌∙◌}
use native.Mathlib.Omega.{arith}
use lib.ListN.{length}
use Rattle.areas.specs.Rows.{held}
use Rattle.areas.proofs.Held.{length-held}
use Rattle.layout.specs.Laying.{RoomMade}
use Rattle.layout.proofs.Growths.{roomy, made_as, grown}
use Rattle.layout.proofs.grow.Goals as goal
use Rattle.layout.proofs.grow.Goals.{Joined-room_behind-count}

pub labels_in-count-requires : goal.labels_in-count-requires
labels_in-count-requires c = tt

pub room_behind-requires : goal.room_behind-requires
room_behind-requires c = tt

pub lay_anew-requires : goal.lay_anew-requires
lay_anew-requires c =
    omega (arith, c.labels_in-count.ensures, c.well_formed.1.1.1.1.1.0.1, length-held c.args.news.now)

pub weave_into-requires : goal.weave_into-requires
weave_into-requires c = tt

-- After the first step there is room behind the n-th set.
made : (c : Joined-room_behind-count) → let a = c.args in
    RoomMade a.terms a.n a.total (length (held a.news.now)) a.sets.now (held a.work.now) c.if-room_behind-count.sets (held c.if-room_behind-count.work)
made c =
    let count = c.labels_in-count.ensures in
    let room = c.room_behind.ensures in
    elim c.if-room_behind-count.branch [
      | goal.then-room_behind-count w ↦ made_as w.lay_anew.ensures count (ap held w.work-is) w.sets-is
      | goal.else-room_behind-count w ↦ made_as (roomy (omega (arith, w.if-room_behind-count.false))) refl (ap held w.work-is) w.sets-is
    ]

pub returns : goal.returns
returns c = grown (made (goal.at.returns c).Joined-room_behind-count) c.weave_into.ensures

pub shape_of-work : goal.shape_of-work
shape_of-work c =
    c.weave_into.auto.work
    ∙ elim c.if-room_behind-count.branch [
      | goal.then-room_behind-count w ↦ ap length w.work-is ∙ w.lay_anew.auto.work
      | goal.else-room_behind-count w ↦ ap length w.work-is
    ]

pub shape_of-sets : goal.shape_of-sets
shape_of-sets c = (returns c).long_row
