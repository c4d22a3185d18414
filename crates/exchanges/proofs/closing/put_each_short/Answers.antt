-- `exchanges::closing::put_each_short` meets its contract. Assumes nothing.
use native.Mathlib.Omega.{arith}
use lib.ListN.{replicate}
use Rattle.areas.specs.Rows.{held}
use Rattle.areas.proofs.Held.{length-held}
use Rattle.exchanges.proofs.Walking.{alone-walking}
use Rattle.exchanges.proofs.closing.put_each_short.Goals as goal

pub put_each-requires : goal.put_each-requires
put_each-requires c =
    let a = c.args in
    alone-walking a.len (held a.operand.now) (held a.rules.now) (held a.out.now) _ c.requires (omega (arith, length-held (replicate 1 0)))
