-- `ranges::both_fault` meets its contract: the faults of the two numbers, joined.
-- Assumes nothing.
use mathlib.Core.Path.{ap₂, ◌∙◌}
use Rattle.grammar.specs.Faults.{worse}
use Rattle.ranges.proofs.both_fault.Goals as goal

pub returns : goal.returns
returns c = c.worse_of.ensures ∙ ap₂ worse c.number_fault-first.ensures c.number_fault-second.ensures
