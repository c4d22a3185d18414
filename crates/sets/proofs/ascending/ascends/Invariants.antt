-- `sets::ascending::ascends` meets its contract. The loop's invariant is `Climbing`. Assumes nothing.
use Rattle.areas.specs.Rows.{held}
use Rattle.labels.specs.Packing.{code}
use Rattle.parts.specs.Parts.{set_at}
use Rattle.sets.proofs.Presence.{Climbing}
use Rattle.sets.proofs.ascending.ascends.Given as goal

abbrev pub invariant-loop-i : goal.invariant-loop-i
invariant-loop-i l = Climbing (set_at l.at l.len (held l.words)) (code l.last) l.i
