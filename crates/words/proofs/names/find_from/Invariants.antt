-- `words::names::find_from` meets its contract: what was passed and what is left come to the number that is asked for.
-- Assumes nothing.
use mathlib.Core.Path.{◌≡◌}
use Prim.Native.Nat.{◌≤◌, max}
use lib.ListN.{length}
use Rattle.words.specs.Searches.{number_from}
use Rattle.words.proofs.names.find_from.Given as goal

abbrev pub invariant-loop-i : goal.invariant-loop-i
invariant-loop-i l = (l.i ≤ max l.start (length l.names)) × (number_from l.names l.i l.w ≡ number_from l.names l.start l.w)
