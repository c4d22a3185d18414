use mathlib.Core.Path.{refl, sym, ◌∙◌}
use native.Mathlib.Omega.{arith}
use lib.ListN.{drop_of_length-le}
use Rattle.words.proofs.Rests.{rest-cons, spelled-other, spelled-more, spelled-all}
use Rattle.words.proofs.literals.read_literal.Goals as goal

pub loop-next-init : goal.loop-next-init
loop-next-init c = record { says = refl; within = omega arith }

pub returns-then-not-sign_at : goal.returns-then-not-sign_at
returns-then-not-sign_at c =
    spelled-other c.loop-next.invariant (rest-cons c.args.due.now c.loop-next.next (omega arith)) (sym c.sign_at.ensures ∙ c.if-not-sign_at.true)

pub loop-next-preserved : goal.loop-next-preserved
loop-next-preserved c =
    spelled-more c.loop-next.invariant (rest-cons c.args.due.now c.loop-next.next (omega arith)) (sym c.sign_at.ensures ∙ c.if-not-sign_at.false)

pub returns : goal.returns
returns c =
    let l = c.loop-next in
    spelled-all l.invariant (drop_of_length-le c.args.due.now {i = l.next} (omega arith)) (omega arith)
