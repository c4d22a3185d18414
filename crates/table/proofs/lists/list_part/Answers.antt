-- `table::lists::list_part` meets its contract.
-- Assumes nothing.
use native.Mathlib.Omega.{arith}
use Prim.Native.Nat.{◌*◌}
use Rattle.table.proofs.Parts.{take-drop-past}
use Rattle.table.proofs.lists.list_part.Goals as goal

pub returns-then-lists-number : goal.returns-then-lists-number
returns-then-lists-number c = let a = c.args in take-drop-past a.lists.now (64 * a.number) a.count (omega arith)
