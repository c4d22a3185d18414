use mathlib.Core.Path.{refl, sym, ◌∙◌}
use Rattle.labels.specs.Packing.{code}
use Rattle.labels.specs.Bags.{bag}
use Rattle.names.proofs.Lists.{clear-fail, clear_step, clear-end}
use Rattle.names.proofs.clear.Goals as goal

pub loop-n-init : goal.loop-n-init
loop-n-init c = refl

pub returns-then-count-ne0 : goal.returns-then-count-ne0
returns-then-count-ne0 c =
    let l = c.loop-n in
    let a = c.args in
    let some = clear-fail a.names.now (bag (code a.a)) l.n-index c.loop-n-test.true in
    sym (some (λ z. c.if-count-ne0.true (c.count.ensures.exact ∙ z))) ∙ l.invariant

pub loop-n-preserved : goal.loop-n-preserved
loop-n-preserved c =
    let l = c.loop-n in
    let a = c.args in
    let none = sym c.count.ensures.exact ∙ c.if-count-ne0.false in
    clear_step a.names.now (bag (code a.a)) l.n-index c.loop-n-test.true none ∙ l.invariant

pub returns : goal.returns
returns c =
    let l = c.loop-n in
    let a = c.args in
    sym (clear-end a.names.now (bag (code a.a)) l.n-index c.loop-n-test.false) ∙ l.invariant
