use mathlib.Core.Path.{◌≡◌, refl, ◌∙◌}
use Prim.Native.Nat.{◌+◌, ◌*◌}
use native.Mathlib.Omega.{arith}
use Rattle.areas.specs.Rows.{held}
use Rattle.areas.proofs.Held.{held-zeros}
use Rattle.operators.proofs.Exchanged.{over-start, over-step, over-end}
use Rattle.operators.proofs.exchanging.exchanges.Goals as goal

pub loop-i-init : goal.loop-i-init
loop-i-init c = (over-start c.args.rules.now c.requires (held-zeros 16), refl)

pub loop-i-preserved : goal.loop-i-preserved
loop-i-preserved c =
    let i = c.loop-i.i in
    let read : 3 * (i + 1) ≡ 3 * i + 3 = omega arith in
    let put : 2 * (i + 1) ≡ 2 * i + 2 = omega arith in (
      rw (read, put)
          (over-step c.args.rules.now (3 * i) (2 * i) c.loop-i.invariant.0 (omega arith)
          c.write_label.ensures c.single.ensures c.write_label-in-loop-i.ensures),
      c.write_label-in-loop-i.auto.words ∙ c.write_label.auto.words ∙ c.loop-i.invariant.1,
    )

pub returns : goal.returns
returns c =
    let i = c.loop-i.i in over-end c.args.rules.now (held c.loop-i.list) (3 * i) (2 * i) c.loop-i.invariant.0 (omega arith)
