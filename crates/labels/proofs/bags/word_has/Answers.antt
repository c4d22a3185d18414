use Rattle.std.proofs.Common.{refl, arith, ltb-false, ltb-true}
use Rattle.labels.proofs.Words.{compared-end, compared-fail, compared-step, compared-skip}
use Rattle.labels.proofs.bags.word_has.Goals as goal

pub returns-then-b-a : goal.returns-then-b-a
returns-then-b-a c =
    compared-fail c.loop-names.invariant c.loop-names-test.true c.if-names-ne0.true
    (ltb-true _ _ c.if-b-a.true-raw)

pub loop-names-preserved : goal.loop-names-preserved
loop-names-preserved c =
    elim c.else-names-ne0.branch [
      | goal.else-names-ne0-via-then-names-ne0+else-b-a w ↦ compared-step c.loop-names.invariant c.loop-names-test.true (ltb-false _ _ w.if-b-a.false-raw)
      | goal.else-names-ne0-via-else-names-ne0 w ↦ compared-skip c.loop-names.invariant c.loop-names-test.true w.if-names-ne0.false
    ]

pub returns : goal.returns
returns c = compared-end (rw c.loop-names-test.false at c.loop-names.invariant)
