use mathlib.Core.Path.{◌≡◌, refl, sym, ap, ◌∙◌}
use Prim.Native.Nat.{◌-◌}
use native.Mathlib.Omega.{arith}
use borrow.Author.Tests.{not-true, not-false}
use lib.ListN.{get_or}
use Rattle.labels.specs.Packing.{code}
use Rattle.labels.proofs.Codes.{code_of}
use Rattle.areas.specs.Rows.{held}
use Rattle.labels.specs.Bags.{bag, as_much}
use Rattle.memory.proofs.Holding.{covers-end, covers-fails, covers-on}
use Rattle.memory.proofs.covers.Goals as goal
use Rattle.memory.proofs.covers.Goals.{After-as_much}

pub loop-i-init : goal.loop-i-init
loop-i-init c = refl

-- whether the rule whose left side is read is covered
much : (c : After-as_much) →
    let a = c.args in
    c.as_much.result ≡ as_much (bag (get_or (held a.rules.now) (c.loop-i.i - 2) 0)) (bag (code a.a)) (bag (code a.b))
much c =
    let a = c.args in
    c.as_much.ensures ∙ ap (λ x. as_much (bag x) (bag (code a.a)) (bag (code a.b))) (code_of c.read_label.ensures)

pub returns-then-not-as_much : goal.returns-then-not-as_much
returns-then-not-as_much c =
    let a = c.args in
    let less = sym (not-true c.as_much.result c.if-not-as_much.true-raw) ∙ much (goal.at.returns-then-not-as_much c).After-as_much in
    covers-fails (held a.rules.now) (code a.a) (code a.b) c.loop-i.i (omega (arith, c.loop-i-test.true)) less
    ∙ sym c.loop-i.invariant

pub loop-i-smaller : goal.loop-i-smaller
loop-i-smaller c = omega arith

pub loop-i-preserved : goal.loop-i-preserved
loop-i-preserved c =
    let a = c.args in
    let more = sym (not-false c.as_much.result c.if-not-as_much.false-raw) ∙ much (goal.at.loop-i-preserved c).After-as_much in
    c.loop-i.invariant ∙ covers-on (held a.rules.now) (code a.a) (code a.b) c.loop-i.i (omega (arith, c.loop-i-test.true)) more

pub returns : goal.returns
returns c =
    let a = c.args in
    covers-end (held a.rules.now) (code a.a) (code a.b) c.loop-i.i c.loop-i-test.false ∙ sym c.loop-i.invariant
