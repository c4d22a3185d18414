-- `courses::course` meets its contract. The loop's invariant: so many terms are done, and the areas have as many words as before.
-- Assumes nothing.
use mathlib.Core.Path.{◌≡◌}
use lib.ListN.{length}
use Rattle.areas.specs.Rows.{held}
use Rattle.courses.proofs.Coursing.{Coursing}
use Rattle.courses.proofs.course.Given as goal

abbrev pub invariant-loop-n : goal.invariant-loop-n
invariant-loop-n l =
    Coursing l.slots l.lists l.end l.initial.sets l.initial.news (held l.initial.work) (held l.initial.log) (held l.initial.out) l.sets l.news
    (held l.work) (held l.log) (held l.out) l.to l.n
    × (length l.work ≡ length l.initial.work)
    × (length l.log ≡ length l.initial.log)
    × (length l.out ≡ length l.initial.out)
