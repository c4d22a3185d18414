-- `label_texts::write_fitting_label` meets its contract: the parts, or `tau` where there is none.
-- Assumes nothing.
use native.Mathlib.Omega.{arith}
use Rattle.labels.specs.Packing.{code}
use Rattle.meaning.specs.Bytes.{Text}
use Rattle.grammar.specs.Marks.{label_text}
use Rattle.grammar.specs.Printed.{printed_label}
use Rattle.grammar.proofs.Areas.{fits-is_some, some→written}
use Rattle.label_texts.specs.Packed.{name_texts, counts_of}
use Rattle.label_texts.proofs.Tau.{parts-written, tau-written, parts_within, tau-length}
use Rattle.label_texts.proofs.write_fitting_label.Goals as goal
use Rattle.label_texts.proofs.write_fitting_label.Goals.{Start}

abbrev parts : Start → Text
parts s = label_text (name_texts s.args.names) (counts_of (code s.args.label))

pub write_parts-size-requires : goal.write_parts-size-requires
unfolding printed_label
write_parts-size-requires c = omega (arith, parts_within (parts (goal.at.write_parts-size-requires c).Start))

pub unwrap-requires : goal.unwrap-requires
unfolding printed_label
unwrap-requires c =
    let s = (goal.at.unwrap-requires c).Start in
    fits-is_some (omega (arith, s.requires, tau-length (parts s) (omega arith))) c.copy.ensures

pub returns-then-size-eq0 : goal.returns-then-size-eq0
unfolding printed_label
returns-then-size-eq0 c =
    let s = (goal.at.returns-then-size-eq0 c).Start in
    let w = some→written (omega (arith, s.requires, tau-length (parts s) (omega arith))) c.copy.ensures c.unwrap.ensures in
    tau-written (parts s) c.write_parts-size.ensures c.if-size-eq0.true w

pub returns : goal.returns
unfolding printed_label
returns c =
    parts-written (parts (goal.at.returns c).Start) c.write_parts-size.ensures c.if-size-eq0.false
