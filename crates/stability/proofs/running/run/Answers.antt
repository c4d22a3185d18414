-- `stability::running::run` meets its contract: the tests of the areas, the terms with merges, and round after round.
-- Assumes nothing.
use borrow.Author.Rules.{rules}
use mathlib.Core.Path.{sym}
use mathlib.Core.Logic.{inl, inr}
use lib.ListN.{length}
use lib.Seq.{length-take-le}
use Rattle.stability.proofs.Runs.{ran-unready, ran-turned}
use Rattle.stability.proofs.running.run.Goals as goal

pub slots_of-terms-requires : goal.slots_of-terms-requires
slots_of-terms-requires c = tt

pub returns-then-slots-count : goal.returns-then-slots-count
returns-then-slots-count c = ran-unready (inl (rw c.slots_of-terms.ensures at c.if-slots-count.true))

pub labels_in-requires : goal.labels_in-requires
labels_in-requires c = tt

pub returns-then-labels_in-gt-TOTAL_LABELS : goal.returns-then-labels_in-gt-TOTAL_LABELS
returns-then-labels_in-gt-TOTAL_LABELS c = ran-unready (inr (rw c.labels_in.ensures at c.if-labels_in-gt-TOTAL_LABELS.true))

pub slice_bounds-turn_on-end-2 : goal.slice_bounds-turn_on-end-2
slice_bounds-turn_on-end-2 c =
    let terms = c.slots_of-terms.result.now in
    sym (length-take-le (length terms) c.copy_merged.new.slots (search rules))

pub bodies_of-requires : goal.bodies_of-requires
bodies_of-requires c = tt

pub returns : goal.returns
returns c =
    let sized = c.slots_of-terms.ensures in
    ran-turned (rw sized at c.if-slots-count.false) c.copy_merged.auto.slots (rw sized at c.copy_merged.ensures)
    (rw (sized, c.bodies_of.ensures) at c.turn_on.ensures)

pub shape_of-slots : goal.shape_of-slots
shape_of-slots c = (returns c).slots_long

pub shape_of-sets : goal.shape_of-sets
shape_of-sets c = (returns c).kept.sets_long

pub shape_of-news : goal.shape_of-news
shape_of-news c = (returns c).kept.news_long

pub shape_of-work : goal.shape_of-work
shape_of-work c = c.turn_on.auto.work

pub shape_of-log : goal.shape_of-log
shape_of-log c = c.turn_on.auto.log

pub shape_of-out : goal.shape_of-out
shape_of-out c = c.turn_on.auto.out
