use Rattle.std.proofs.Common.{refl, ◌∙◌, arith}
use Rattle.labels.specs.Packing.{code}
use Rattle.areas.proofs.Held.{held-long}
use Rattle.sets.proofs.Steps.{handed_on}
use Rattle.exchanges.proofs.RuleByRule.{put-known, put-large, put-walking, put-stops, put-done}
use Rattle.exchanges.proofs.RuleByRule.{following-start, following-end, following-nothing, following-next, following-large, leads-less}
use Rattle.exchanges.proofs.following.+follow_put.Goals as goal

pub put-returns-then-known : goal.put-returns-then-known
put-returns-then-known t c =
    let a = c.args in
    put-known a.before (code a.state.rest) (code a.state.sum) c.requires c.known.ensures c.if-known.true

pub put-returns-in_err-more : goal.put-returns-in_err-more
put-returns-in_err-more t c =
    let a = c.args in
    rw (handed_on c.from_residual.result c.from_residual.ensures.0)
    (put-large a.before (code a.state.rest) (code a.state.sum) c.requires c.at_start.ensures c.in_err-more.ensures refl)

pub put-follow-requires : goal.put-follow-requires
put-follow-requires t c =
    let a = c.args in
    (omega arith, put-walking a.before (code a.state.rest) (code a.state.sum) c.requires c.at_start.ensures c.in_ok-more.ensures refl)

pub put-returns-in_err-count : goal.put-returns-in_err-count
put-returns-in_err-count t c =
    let a = c.args in
    rw (handed_on c.from_residual-in_err-count.result c.from_residual-in_err-count.ensures.0)
    (put-stops a.before (code a.state.rest) (code a.state.sum) c.requires c.at_start.ensures c.in_ok-more.ensures refl c.in_err-count.ensures refl)

pub put-returns : goal.put-returns
put-returns t c =
    let a = c.args in
    put-done a.before (code a.state.rest) (code a.state.sum) c.requires c.at_start.ensures c.in_ok-more.ensures refl
    c.in_ok-count.ensures refl (held-long _ _ c.follow.auto.states) c.remember.ensures

pub follow-loop-i-init : goal.follow-loop-i-init
follow-loop-i-init t c =
    let a = c.args in
    (following-start a.before (code a.state.rest) (code a.state.sum) c.requires, refl, refl)

pub follow-put-requires : goal.follow-put-requires
follow-put-requires t c = (
  omega (arith, leads-less c.loop-i.invariant.0 c.loop-i-test.true c.next_state.ensures c.in-Some.is),
  c.loop-i.invariant.0.walking,
)

pub follow-returns-in_err-count : goal.follow-returns-in_err-count
follow-returns-in_err-count t c =
    rw (handed_on c.from_residual.result c.from_residual.ensures.0)
    (following-large c.loop-i.invariant.0 c.loop-i-test.true c.next_state.ensures c.in-Some.is c.in_err-count.ensures refl)

pub follow-loop-i-preserved-in-Some : goal.follow-loop-i-preserved-in-Some
follow-loop-i-preserved-in-Some t c =
    let inv = c.loop-i.invariant in
    let kept = c.put.auto in (
      following-next inv.0 c.loop-i-test.true c.next_state.ensures c.in-Some.is c.in_ok-count.ensures refl (held-long _ _ kept.states),
      kept.states ∙ inv.1,
      kept.out ∙ inv.2,
    )

pub follow-loop-i-preserved : goal.follow-loop-i-preserved
follow-loop-i-preserved t c =
    let inv = c.loop-i.invariant in
    (following-nothing inv.0 c.loop-i-test.true c.next_state.ensures c.in_default.is, inv.1, inv.2)

pub follow-returns : goal.follow-returns
follow-returns t c = following-end c.loop-i.invariant.0 c.loop-i-test.false
