use mathlib.Core.Path.{◌≡◌, refl, ◌∙◌}
use native.Mathlib.Omega.{arith}
use Rattle.words.proofs.Looked.{number-here, number-later, number-none}
use Rattle.words.proofs.names.find_from.Goals as goal

pub loop-i-init : goal.loop-i-init
loop-i-init c = (omega arith, refl)

pub returns-then-names-i : goal.returns-then-names-i
returns-then-names-i c =
    number-here c.args.names.now c.loop-i.i c.args.w
    (omega arith) c.if-names-i.true
    ∙ c.loop-i.invariant.1

pub loop-i-preserved : goal.loop-i-preserved
loop-i-preserved c =
    let a = c.args in
    let l = c.loop-i in
    let later = number-later a.names.now l.i a.w (omega arith) (omega arith) (omega arith) c.if-names-i.false in
    (omega arith, later ∙ l.invariant.1)

pub returns : goal.returns
returns c =
    let l = c.loop-i in
    let e : c.max.result ≡ l.i = omega (arith, l.invariant.0) in
    e ∙ number-none c.args.names.now l.i c.args.w (omega arith) ∙ l.invariant.1
