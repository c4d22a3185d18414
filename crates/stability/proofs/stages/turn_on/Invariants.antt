-- `stability::stages::turn_on` meets its contract: round after round. The areas have as many words as before.
-- Assumes nothing.
use mathlib.Core.Path.{◌≡◌}
use lib.ListN.{length}
use Rattle.areas.specs.Rows.{held}
use Rattle.stability.proofs.Rounding.{Turned}
use Rattle.stability.proofs.stages.turn_on.Given as goal

abbrev pub invariant-loop-k : goal.invariant-loop-k
invariant-loop-k l =
    Turned l.slots l.lists l.bodies l.initial.sets l.initial.news (held l.initial.work) (held l.initial.log) (held l.initial.out) l.sets l.news
    (held l.work) (held l.log) (held l.out) l.k l.end
    × (length l.work ≡ length l.initial.work)
    × (length l.log ≡ length l.initial.log)
    × (length l.out ≡ length l.initial.out)
