-- `memory::covers` meets its contract. The loop's invariant: the rules before the i-th label decide; the measure is i.
-- Assumes nothing.
use mathlib.Core.Path.{◌≡◌}
use Rattle.labels.specs.Packing.{code}
use Rattle.areas.specs.Rows.{held}
use Rattle.rules.specs.Rules.{exchanges_before}
use Rattle.memory.specs.Memory.{covers_in}
use Rattle.memory.proofs.covers.Given as goal

abbrev pub invariant-loop-i : goal.invariant-loop-i
invariant-loop-i l =
    covers_in (exchanges_before (held l.rules) l.before) (code l.a) (code l.b) ≡ covers_in (exchanges_before (held l.rules) l.i) (code l.a) (code l.b)

abbrev pub decreases-loop-i : goal.decreases-loop-i
decreases-loop-i l = l.i
