use mathlib.Core.Path.{◌≡◌, refl, ◌∙◌}
use native.Mathlib.Omega.{arith}
use borrow.Author.Tests.{not-true, not-false}
use lib.ListN.{length}
use Rattle.stability.proofs.Rounding.{turned-start, turned-step, turned-large, turned-stable, turned-end}
use Rattle.stability.proofs.stages.turn_on.Goals as goal
use Rattle.stability.proofs.stages.turn_on.Goals.{After-course}

pub loop-k-init : goal.loop-k-init
loop-k-init c = (turned-start, refl, refl, refl)

-- the words of the areas after a round
kept-words : (c : After-course) → let last = c.course.new in
    let a = c.args in
    (length last.work ≡ length a.work.now) × (length last.log ≡ length a.log.now) × (length last.out ≡ length a.out.now)
kept-words c =
    let inv = c.loop-k.invariant in
    let kept = c.course.auto in
    (kept.work ∙ inv.1, kept.log ∙ inv.2, kept.out ∙ inv.3)

pub returns-in_default : goal.returns-in_default
returns-in_default c = turned-large c.requires c.loop-k.invariant.0 (rw c.in_default.is at c.course.ensures)

pub shape_of-sets-in_default : goal.shape_of-sets-in_default
shape_of-sets-in_default c = (returns-in_default c).kept.sets_long

pub shape_of-news-in_default : goal.shape_of-news-in_default
shape_of-news-in_default c = (returns-in_default c).kept.news_long

pub shape_of-work-in_default : goal.shape_of-work-in_default
shape_of-work-in_default c = (kept-words (goal.at.shape_of-work-in_default c).After-course).0

pub shape_of-log-in_default : goal.shape_of-log-in_default
shape_of-log-in_default c = (kept-words (goal.at.shape_of-log-in_default c).After-course).1

pub shape_of-out-in_default : goal.shape_of-out-in_default
shape_of-out-in_default c = (kept-words (goal.at.shape_of-out-in_default c).After-course).2

pub returns-then-not-hand_on : goal.returns-then-not-hand_on
returns-then-not-hand_on c =
    turned-stable c.requires c.loop-k.invariant.0 (rw c.in-Ok.is at c.course.ensures)
    (rw (not-true c.hand_on.result c.if-not-hand_on.true-raw) at c.hand_on.ensures)

pub shape_of-sets-then-not-hand_on : goal.shape_of-sets-then-not-hand_on
shape_of-sets-then-not-hand_on c = (returns-then-not-hand_on c).kept.sets_long

pub shape_of-news-then-not-hand_on : goal.shape_of-news-then-not-hand_on
shape_of-news-then-not-hand_on c = (returns-then-not-hand_on c).kept.news_long

pub shape_of-work-then-not-hand_on : goal.shape_of-work-then-not-hand_on
shape_of-work-then-not-hand_on c =
    (kept-words (goal.at.shape_of-work-then-not-hand_on c).After-course).0

pub shape_of-log-then-not-hand_on : goal.shape_of-log-then-not-hand_on
shape_of-log-then-not-hand_on c =
    (kept-words (goal.at.shape_of-log-then-not-hand_on c).After-course).1

pub shape_of-out-then-not-hand_on : goal.shape_of-out-then-not-hand_on
shape_of-out-then-not-hand_on c =
    (kept-words (goal.at.shape_of-out-then-not-hand_on c).After-course).2

pub loop-k-preserved : goal.loop-k-preserved
loop-k-preserved c =
    let words = kept-words (goal.at.loop-k-preserved c).After-course in (
      turned-step c.requires c.loop-k.invariant.0 (rw c.in-Ok.is at c.course.ensures)
          (rw (not-false c.hand_on.result c.if-not-hand_on.false-raw) at c.hand_on.ensures),
      words.0,
      words.1,
      words.2,
    )

pub returns : goal.returns
returns c = turned-end c.requires c.loop-k.invariant.0 (omega arith)

pub shape_of-sets : goal.shape_of-sets
shape_of-sets c = (returns c).kept.sets_long

pub shape_of-news : goal.shape_of-news
shape_of-news c = (returns c).kept.news_long

pub shape_of-work : goal.shape_of-work
shape_of-work c = c.loop-k.invariant.1

pub shape_of-log : goal.shape_of-log
shape_of-log c = c.loop-k.invariant.2

pub shape_of-out : goal.shape_of-out
shape_of-out c = c.loop-k.invariant.3
