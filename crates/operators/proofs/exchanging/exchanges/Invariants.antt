-- `operators::exchanging::exchanges` meets its contract: the rules are taken one after the other. Assumes nothing.
use mathlib.Core.Path.{◌≡◌}
use Prim.Native.Nat.{◌*◌}
use lib.ListN.{length}
use Rattle.areas.specs.Rows.{held}
use Rattle.operators.proofs.Exchanged.{Over}
use Rattle.operators.proofs.exchanging.exchanges.Given as goal

abbrev pub invariant-loop-i : goal.invariant-loop-i
invariant-loop-i l = Over l.rules (held l.list) (3 * l.i) (2 * l.i) × (length l.list ≡ 32)
