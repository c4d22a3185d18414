-- `logs::log_new` meets its contract. The loop's invariant: the first of the new labels are written, and the others are among the
-- labels that are still to be read. Assumes nothing.
use mathlib.Core.Path.{◌≡◌}
use lib.ListN.{length}
use Rattle.areas.specs.Rows.{held}
use Rattle.logs.proofs.LogSteps.{Logging}
use Rattle.logs.proofs.log_new.Given as goal

abbrev pub invariant-loop-i : goal.invariant-loop-i
invariant-loop-i l =
    Logging (held l.known) (held l.made) l.at l.most (held l.initial.log) (held l.log) l.len l.i × (length l.log ≡ length l.initial.log)
