-- `memory::known` meets its contract. The loop's invariant: the entries of the slot from a way on decide.
-- Assumes nothing.
use mathlib.Core.Path.{◌≡◌}
use Prim.Native.Nat.{◌+◌, ◌-◌}
use Rattle.labels.specs.Packing.{code}
use Rattle.areas.specs.Rows.{held}
use Rattle.memory.specs.Memory.{holds_from, known_in, ways}
use Rattle.memory.proofs.known.Given as goal

abbrev pub invariant-loop-way : goal.invariant-loop-way
invariant-loop-way l =
    known_in (held l.memory) (held l.rules) l.before (code l.state.rest) (code l.state.sum)
    ≡ holds_from (ways - l.way) (held l.memory) (held l.rules) (l.first + l.way) l.before (code l.state.rest) (code l.state.sum)
