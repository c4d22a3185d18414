use mathlib.Core.Path.{◌≡◌, refl, ◌∙◌}
use lib.ListN.{length}
use Rattle.areas.specs.Rows.{held}
use Rattle.sets.proofs.Steps.{handed_on}
use Rattle.courses.proofs.Coursing.{coursing-start, coursing-step, coursing-large, coursing-end}
use Rattle.courses.proofs.course.Goals as goal
use Rattle.courses.proofs.course.Goals.{After-advance}

pub loop-n-init : goal.loop-n-init
loop-n-init c =
    let a = c.args in
    let start =
    coursing-start a.slots.now a.lists.now a.end a.sets.now a.news.now (held a.work.now) (held a.log.now) (held a.out.now) in
    (start, refl, refl, refl)

-- the words of the areas after a term
kept-words : (c : After-advance) → let last = c.advance.new in
    let a = c.args in
    (length last.work ≡ length a.work.now) × (length last.log ≡ length a.log.now) × (length last.out ≡ length a.out.now)
kept-words c =
    let inv = c.loop-n.invariant in
    let kept = c.advance.auto in
    (kept.work ∙ inv.1, kept.log ∙ inv.2, kept.out ∙ inv.3)

pub returns-in_err-to : goal.returns-in_err-to
returns-in_err-to c =
    rw (handed_on c.from_residual.result c.from_residual.ensures.0)
    (coursing-large c.loop-n.invariant.0 c.loop-n-test.true c.in_err-to.ensures)

pub shape_of-sets-in_err-to : goal.shape_of-sets-in_err-to
shape_of-sets-in_err-to c = (returns-in_err-to c).kept.sets_long

pub shape_of-news-in_err-to : goal.shape_of-news-in_err-to
shape_of-news-in_err-to c = (returns-in_err-to c).kept.news_long

pub shape_of-work-in_err-to : goal.shape_of-work-in_err-to
shape_of-work-in_err-to c = (kept-words (goal.at.shape_of-work-in_err-to c).After-advance).0

pub shape_of-log-in_err-to : goal.shape_of-log-in_err-to
shape_of-log-in_err-to c = (kept-words (goal.at.shape_of-log-in_err-to c).After-advance).1

pub shape_of-out-in_err-to : goal.shape_of-out-in_err-to
shape_of-out-in_err-to c = (kept-words (goal.at.shape_of-out-in_err-to c).After-advance).2

pub loop-n-preserved : goal.loop-n-preserved
loop-n-preserved c =
    let words = kept-words (goal.at.loop-n-preserved c).After-advance in (
      coursing-step c.loop-n.invariant.0 c.loop-n-test.true c.in_ok-to.ensures,
      words.0,
      words.1,
      words.2,
    )

pub shape_of-sets : goal.shape_of-sets
shape_of-sets c = c.loop-n.invariant.0.kept.sets_long

pub shape_of-news : goal.shape_of-news
shape_of-news c = c.loop-n.invariant.0.kept.news_long

pub shape_of-work : goal.shape_of-work
shape_of-work c = c.loop-n.invariant.1

pub shape_of-log : goal.shape_of-log
shape_of-log c = c.loop-n.invariant.2

pub shape_of-out : goal.shape_of-out
shape_of-out c = c.loop-n.invariant.3

pub returns : goal.returns
returns c = coursing-end c.loop-n.invariant.0 c.loop-n-test.false
