-- `tails::wraps::joined` meets its contract: the list's fault and the operand's, joined.
-- Assumes nothing.
use mathlib.Core.Path.{ap, ◌∙◌}
use Rattle.grammar.specs.Faults.{worse}
use Rattle.faults.specs.CodedFaults.{found_of}
use Rattle.tails.proofs.wraps.joined.Goals as goal

pub returns : goal.returns
returns c = c.worse_of.ensures ∙ ap (worse (found_of c.args.said.fault)) c.number_fault.ensures
