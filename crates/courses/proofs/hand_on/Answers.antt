use Rattle.courses.proofs.Handing.{handing-start, handing-end, handing-some, handing-none}
use Rattle.courses.proofs.hand_on.Goals as goal

pub loop-e-init : goal.loop-e-init
loop-e-init c = let a = c.args in handing-start a.bodies.now a.news.now

pub loop-e-preserved : goal.loop-e-preserved
loop-e-preserved c =
    let row = rw c.news_of.ensures at c.set_part.ensures in
    elim c.if-not-is_empty.branch [
      | goal.then-not-is_empty w ↦ handing-some c.loop-e.invariant c.loop-e-test.true c.part_at-part.ensures row c.is_empty.ensures
          w.if-not-is_empty.true-raw w.some-is
      | goal.else-not-is_empty w ↦ handing-none c.loop-e.invariant c.loop-e-test.true c.part_at-part.ensures row c.is_empty.ensures
          w.if-not-is_empty.false-raw w.some-is
    ]

pub shape_of-news : goal.shape_of-news
shape_of-news c = c.loop-e.invariant.long

pub returns : goal.returns
returns c = handing-end c.loop-e.invariant c.loop-e-test.false
