-- `syncs::merge_wholes` meets its contract: slot after slot.
-- Assumes nothing.
use mathlib.Core.Path.{◌≡◌}
use Rattle.syncs.specs.Merging.{merged_to}
use Rattle.syncs.proofs.merge_wholes.Given as goal

abbrev pub invariant-loop-n : goal.invariant-loop-n
invariant-loop-n l = l.slots ≡ merged_to l.n l.initial.slots
