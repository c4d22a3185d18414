use Prim.Native.Nat.{◌%◌, ◌^◌}
use native.Mathlib.Nat.{mod-mod}
use native.Mathlib.Omega.{arith}
use Rattle.labels.specs.Packing.{code}
use Rattle.names.proofs.Lists.{hidden-start, hidden-step, hidden-end}
use Rattle.names.proofs.hide.Goals as goal

pub loop-n-init : goal.loop-n-init
loop-n-init c =
    let a = c.args in
    hidden-start a.names.now (record { lower = a.a.lower % 2 ^ 60; upper = a.a.upper }) (omega arith) (omega arith)

pub loop-n-preserved : goal.loop-n-preserved
loop-n-preserved c = hidden-step c.loop-n.invariant c.loop-n-test.true c.hide_one-left.ensures

-- what stands above the names' bits is no name's
pub returns : goal.returns
unfolding code
returns c =
    let a = c.args in
    rw (mod-mod a.a.lower (2 ^ 60)) at (hidden-end c.loop-n.invariant c.loop-n-test.false)
