-- `layout::laying::lay_anew` meets its contract. The loop's invariant is `Anew`: the sets before the t-th stand anew. Assumes nothing.
use mathlib.Core.Path.{◌≡◌}
use lib.ListN.{length}
use Rattle.areas.specs.Rows.{held}
use Rattle.layout.proofs.Layings.{Anew}
use Rattle.layout.proofs.laying.lay_anew.Given as goal

abbrev pub invariant-loop-t : goal.invariant-loop-t
invariant-loop-t l =
    Anew l.terms l.n l.total l.more l.initial.sets (held l.initial.work) l.half l.gap l.start l.end l.t l.sets (held l.work) l.at
    × (length l.work ≡ length l.initial.work)
