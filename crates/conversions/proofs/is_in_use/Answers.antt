use mathlib.Core.Path.{sym}
use native.Mathlib.Omega.{arith}
use Rattle.conversions.proofs.Places.{look-found, look-on, look-end}
use Rattle.conversions.proofs.is_in_use.Goals as goal

pub returns-then-words-i-ne0 : goal.returns-then-words-i-ne0
returns-then-words-i-ne0 c = sym (look-found c.args.words.now c.loop-i.i c.loop-i.invariant (omega arith) c.if-words-i-ne0.true)

pub loop-i-preserved : goal.loop-i-preserved
loop-i-preserved c = look-on c.args.words.now c.loop-i.i c.loop-i.invariant (omega arith) c.if-words-i-ne0.false

pub returns : goal.returns
returns c = sym (look-end c.args.words.now c.loop-i.i c.loop-i.invariant (omega arith))
