-- `lists::names::starts_of` meets its contract: from the last name down, each name is where its letter starts.
-- Assumes nothing.
use mathlib.Core.Path.{◌≡◌}
use lib.ListN.{length}
use Rattle.lists.specs.Starts.{StartingAt}
use Rattle.lists.proofs.names.starts_of.Given as goal

abbrev pub invariant-loop-n : goal.invariant-loop-n
invariant-loop-n l = (length l.starts ≡ 32) × StartingAt l.names l.starts l.n
