-- `printing::lines::write_label_lines` meets its contract: the lines written and the lines to come make up all.
-- Assumes nothing.
use Rattle.areas.specs.Rows.{held}
use Rattle.grammar.proofs.Underway.{Underway}
use Rattle.printing.proofs.LabelLines.{lines_from}
use Rattle.printing.proofs.lines.write_label_lines.Given as goal

abbrev pub invariant-loop-i : goal.invariant-loop-i
invariant-loop-i l = Underway (lines_from l.names (held l.labels) 0) (lines_from l.names (held l.labels) l.i) l.initial.text l.text l.at
