-- `stability::until_stable` meets its contract: the test of the work area, all rounds in areas that are always enough, and what is left.
-- Assumes nothing.
use mathlib.Core.Path.{refl, sym, ◌∙◌}
use native.Mathlib.Nat.{min-eq_left}
use lib.ListN.{length-take}
use Rattle.stability.proofs.Reaches.{reached-short, reached-run}
use Rattle.stability.proofs.until_stable.Goals as goal

pub returns-then-work-lt-WORK_WORDS : goal.returns-then-work-lt-WORK_WORDS
returns-then-work-lt-WORK_WORDS c = reached-short c.if-work-lt-WORK_WORDS.true

pub slice_bounds-run-end : goal.slice_bounds-run-end
slice_bounds-run-end c = refl

pub slice_bounds-run-end-2 : goal.slice_bounds-run-end-2
slice_bounds-run-end-2 c = refl

pub slice_bounds-run-end-3 : goal.slice_bounds-run-end-3
slice_bounds-run-end-3 c = refl

pub slice_bounds-run-end-4 : goal.slice_bounds-run-end-4
slice_bounds-run-end-4 c = c.if-work-lt-WORK_WORDS.false

pub slice_bounds-run-end-5 : goal.slice_bounds-run-end-5
slice_bounds-run-end-5 c =
    sym (length-take 8192 c.args.work.now ∙ min-eq_left c.if-work-lt-WORK_WORDS.false)

pub slice_bounds-run-end-6 : goal.slice_bounds-run-end-6
slice_bounds-run-end-6 c = refl

pub slice_bounds-run-end-7 : goal.slice_bounds-run-end-7
slice_bounds-run-end-7 c = refl

pub run-last-requires : goal.run-last-requires
run-last-requires c = tt

pub root_of-requires : goal.root_of-requires
root_of-requires c = tt

pub returns : goal.returns
returns c =
    reached-run c.run-last.new.work c.if-work-lt-WORK_WORDS.false c.run-last.ensures c.run-last.auto.work
    c.root_of.ensures c.conclude.ensures
