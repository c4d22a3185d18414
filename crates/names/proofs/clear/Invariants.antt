-- `names::clear` meets its contract. The loop's invariant: the names from the i-th on decide. Assumes nothing.
use mathlib.Core.Path.{◌≡◌}
use lib.ListN.{drop}
use Rattle.meaning.specs.Labels.{clear}
use Rattle.labels.specs.Packing.{code}
use Rattle.labels.specs.Bags.{bag}
use Rattle.names.proofs.clear.Given as goal

abbrev pub invariant-loop-n : goal.invariant-loop-n
invariant-loop-n l = clear (drop l.n-index l.names) (bag (code l.a)) ≡ clear l.names (bag (code l.a))
