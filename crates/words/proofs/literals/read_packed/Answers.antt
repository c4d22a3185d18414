use mathlib.Core.Path.{◌≡◌, refl, sym, ◌∙◌}
use Prim.Native.Nat.{◌+◌, ◌-◌, ◌<◌, ◌^◌}
use native.Mathlib.Omega.{arith}
use Rattle.words.proofs.Rests.{spelled-other, spelled-more, spelled-all}
use Rattle.words.proofs.Looked.{packed-split, packed_all}
use Rattle.words.proofs.literals.read_packed.Goals as goal

pub returns-then-left-eq0 : goal.returns-then-left-eq0
returns-then-left-eq0 c = spelled-all c.loop-next.invariant.1 (packed_all (8 - c.loop-next.next) c.if-left-eq0.true) refl

pub returns-then-not-sign_at : goal.returns-then-not-sign_at
returns-then-not-sign_at c =
    let i = c.loop-next.invariant in
    let p = packed-split c.loop-next.left _ (8 - (c.loop-next.next + 1)) (omega arith) (omega arith) i.0 in
    spelled-other i.1 p.1 (sym c.sign_at.ensures ∙ c.if-not-sign_at.true)

pub loop-next-preserved : goal.loop-next-preserved
loop-next-preserved c =
    let i = c.loop-next.invariant in
    let p = packed-split c.loop-next.left _ (8 - (c.loop-next.next + 1)) (omega arith) (omega arith) i.0 in
    (p.0, spelled-more i.1 p.1 (sym c.sign_at.ensures ∙ c.if-not-sign_at.false))

pub returns : goal.returns
returns c =
    let l = c.loop-next in
    let e : 8 ≡ l.next = omega arith in
    let few : l.left < 256 ^ 0 = rw (← e) at l.invariant.0 in
    spelled-all l.invariant.1 (packed_all (8 - l.next) (omega arith)) e
