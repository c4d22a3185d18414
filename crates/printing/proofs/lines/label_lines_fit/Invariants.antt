-- `printing::lines::label_lines_fit` meets its contract: what is left of the room exceeds the lines to come as the room exceeds all.
-- Assumes nothing.
use mathlib.Core.Path.{◌≡◌}
use Prim.Native.Nat.{◌+◌}
use lib.ListN.{length}
use Rattle.areas.specs.Rows.{held}
use Rattle.printing.proofs.LabelLines.{lines_from}
use Rattle.printing.proofs.lines.label_lines_fit.Given as goal

abbrev pub invariant-loop-i : goal.invariant-loop-i
invariant-loop-i l =
    length (lines_from l.names (held l.labels) 0) + l.left ≡ length (lines_from l.names (held l.labels) l.i) + l.room
