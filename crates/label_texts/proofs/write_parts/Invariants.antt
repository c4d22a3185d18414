-- `label_texts::write_parts` meets its contract: what is written and the parts of the names to come make up the label.
-- Assumes nothing.
use Rattle.grammar.specs.Marks.{label_text}
use Rattle.grammar.proofs.Underway.{Underway}
use Rattle.labels.specs.Packing.{code}
use Rattle.label_texts.specs.Packed.{name_texts, counts_of}
use Rattle.label_texts.proofs.Parts.{to_come, parts_from}
use Rattle.label_texts.proofs.write_parts.Given as goal

abbrev pub invariant-loop-name : goal.invariant-loop-name
invariant-loop-name l =
    Underway (label_text (name_texts l.fn.names) (counts_of (code l.fn.label))) (to_come l.at (parts_from l.fn.names l.name-index (code l.rest)))
    l.fn.text l.text l.at
