use mathlib.Core.Path.{◌≡◌, refl, ap}
use Prim.Native.Nat.{◌-◌}
use native.Mathlib.Omega.{arith}
use lib.ListN.{length}
use Rattle.table.specs.Decoded.{name_of}
use Rattle.grammar.proofs.Underway.{underway-start, underway-byte, underway-end, underway-room}
use Rattle.label_texts.proofs.Names.{no_bytes, next_byte}
use Rattle.label_texts.proofs.write_name.Goals as goal

pub loop-at-init : goal.loop-at-init
loop-at-init c = underway-start refl c.requires

pub returns-then-rest-eq0 : goal.returns-then-rest-eq0
returns-then-rest-eq0 c =
    let l = c.loop-at in
    underway-end (rw (no_bytes (8 - l.at) l.rest c.if-rest-eq0.true) at l.invariant)

pub bounds-text-at : goal.bounds-text-at
bounds-text-at c =
    let l = c.loop-at in
    omega (arith, underway-room l.invariant, ap length (next_byte l.at l.rest c.if-rest-eq0.false c.loop-at-test.true))

pub loop-at-preserved : goal.loop-at-preserved
loop-at-preserved c =
    let l = c.loop-at in
    underway-byte (rw (next_byte l.at l.rest c.if-rest-eq0.false c.loop-at-test.true) at l.invariant)

pub returns : goal.returns
unfolding name_of
returns c =
    let l = c.loop-at in
    let all : l.at ≡ 8 = omega arith in
    underway-end (rw all at l.invariant)
