-- `keeping::settle` meets its contract: nothing, or the set brought and the words behind it cleared.
-- Assumes nothing.
use mathlib.Core.Path.{refl}
use mathlib.Core.Logic.{inl, inr}
use Prim.Native.Nat.{◌*◌, ◌-◌}
use lib.ListN.{length}
use native.Mathlib.Omega.{arith}
use Rattle.areas.proofs.Held.{length-held}
use Rattle.keeping.proofs.Bringing.{Within, settled-outside, settled-none, settled-set}
use Rattle.keeping.proofs.settle.Goals as goal

pub returns-then-work-lt-WORK_WORDS : goal.returns-then-work-lt-WORK_WORDS
returns-then-work-lt-WORK_WORDS c = settled-outside (inl c.if-work-lt-WORK_WORDS.true)

pub returns-then-to-gt-WORK_LABELS : goal.returns-then-to-gt-WORK_LABELS
returns-then-to-gt-WORK_LABELS c = settled-outside (inr c.if-to-gt-WORK_LABELS.true)

pub returns-then-to-from : goal.returns-then-to-from
returns-then-to-from c =
    let a = c.args in
    let u : Within a.set a.work.now = (record { room = omega arith; end = omega arith }) in
    settled-none u (omega arith) c.clear.ensures

pub bring-requires : goal.bring-requires
bring-requires c = omega (arith, length-held c.args.work.now)

pub returns : goal.returns
returns c =
    let a = c.args in
    let brought = c.bring in
    let cleared = c.clear-2.ensures in
    let u : Within a.set a.work.now = (record { room = omega arith; end = omega arith }) in
    let left = length brought.new.work - 2 * (a.set.to - a.set.from) in
    settled-set u refl (omega arith) brought.ensures left cleared refl (omega (arith, brought.auto.work))
