use lib.ListN.{get_or}
use Rattle.names.proofs.Lists.{moved-start, moved-step, moved-early, moved-end}
use Rattle.names.proofs.rename_word.Goals as goal

pub loop-i-init : goal.loop-i-init
loop-i-init c =
    let a = c.args in
    moved-start (λ n. get_or a.to.now n 0) a.first a.word c.tau-made.result c.tau-made.ensures

pub returns-then-rest-eq0 : goal.returns-then-rest-eq0
returns-then-rest-eq0 c = moved-early _ _ _ c.loop-i.invariant c.if-rest-eq0.true

pub loop-i-preserved : goal.loop-i-preserved
loop-i-preserved c =
    moved-step _ _ _ c.loop-i.invariant c.several.result c.joined-made.result c.loop-i-test.true
    c.several.ensures c.joined-made.ensures

pub returns : goal.returns
returns c = moved-end _ _ _ c.loop-i.invariant c.loop-i-test.false
