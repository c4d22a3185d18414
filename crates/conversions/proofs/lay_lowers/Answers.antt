use mathlib.Core.Path.{sym}
use native.Mathlib.Omega.{arith}
use Rattle.areas.proofs.Filling.{filling-start, filling_step, filling-end}
use Rattle.conversions.specs.Conversions.{lowers}
use Rattle.conversions.proofs.Places.{lowers-get}
use Rattle.conversions.proofs.RoundTrips.{length-lowers}
use Rattle.conversions.proofs.lay_lowers.Goals as goal

pub loop-i-init : goal.loop-i-init
loop-i-init c = let a = c.args in filling-start (lowers a.words.now) _ a.numbers.now (length-lowers a.words.now) c.requires

pub loop-i-preserved : goal.loop-i-preserved
loop-i-preserved c =
    let a = c.args in
    let l = c.loop-i in
    filling_step (lowers a.words.now) _ a.numbers.now l.numbers l.i _ l.invariant (omega arith)
    (sym (lowers-get a.words.now l.i (omega arith)))

pub returns : goal.returns
returns c =
    let a = c.args in
    let l = c.loop-i in
    filling-end (lowers a.words.now) _ a.numbers.now l.numbers l.i l.invariant (omega arith)
