use mathlib.Core.Path.{sym}
use Prim.Native.Nat.{◌*◌}
use native.Mathlib.Omega.{arith}
use lib.ListN.{length-set}
use Rattle.areas.proofs.Filling.{filling-start, filling-two, filling-end}
use Rattle.conversions.specs.Conversions.{widened}
use Rattle.conversions.proofs.Places.{widened-get}
use Rattle.conversions.proofs.RoundTrips.{length-widened}
use Rattle.conversions.proofs.lay_words.Goals as goal

pub loop-i-init : goal.loop-i-init
loop-i-init c =
    let a = c.args in filling-start (widened a.numbers.now) _ a.words.now (length-widened a.numbers.now) (let h = c.requires in omega arith)

pub bounds-words-i-in-loop-i : goal.bounds-words-i-in-loop-i
bounds-words-i-in-loop-i c = simp length-set (omega arith)

pub loop-i-preserved : goal.loop-i-preserved
loop-i-preserved c =
    let a = c.args in
    let l = c.loop-i in
    let at = widened-get a.numbers.now l.i in
    filling-two (widened a.numbers.now) _ a.words.now l.words l.i _ _ l.invariant (omega arith) (sym at.0) (sym at.1)

pub returns : goal.returns
returns c =
    let a = c.args in
    let l = c.loop-i in
    filling-end (widened a.numbers.now) _ a.words.now l.words (2 * l.i) l.invariant (omega arith)
