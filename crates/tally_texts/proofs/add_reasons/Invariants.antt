-- `tally_texts::add_reasons` meets its contract: the lines written and the lines to come make up all.
-- Assumes nothing.
use mathlib.Core.List.{◌++◌}
use lib.ListN.{take}
use Rattle.grammar.proofs.Underway.{Underway}
use Rattle.tally.specs.Figures.{refusal_numbers}
use Rattle.tally_texts.specs.Texts.{reason_lines}
use Rattle.tally_texts.proofs.add_reasons.Given as goal

abbrev pub invariant-loop-number : goal.invariant-loop-number
invariant-loop-number l =
    Underway (take l.fn.at l.fn.text ++ reason_lines refusal_numbers l.fn.refusals)
    (reason_lines l.number-iterator.a.rest.now l.number-iterator.b.rest.now) l.fn.text l.text l.end
