-- `printing::lines::write_label_line` meets its contract: the key, the label and the line's end.
-- Assumes nothing.
use mathlib.Core.List.{[], ◌∷◌}
use native.Mathlib.Omega.{arith}
use Rattle.labels.specs.Packing.{code}
use Rattle.meaning.specs.Bytes.{ascii}
use Rattle.grammar.specs.Forms.{lf}
use Rattle.grammar.specs.Printed.{printed_label}
use Rattle.label_texts.specs.Packed.{name_texts, counts_of}
use Rattle.grammar.proofs.Areas.{some→written}
use Rattle.grammar.proofs.Underway.{next-room}
use Rattle.numerals.proofs.Line.{length-line, key→underway, value→ended}
use Rattle.printing.proofs.lines.write_label_line.Goals as goal

-- the key is written, and the value behind it
pub returns : goal.returns
returns c =
    let a = c.args in
    let key = ascii "label=" in
    let value = printed_label (name_texts a.names) (counts_of (code a.label)) in
    let first = some→written (omega (arith, c.requires, length-line key value)) c.copy.ensures c.unwrap-at.ensures in
    let room = next-room value (lf ∷ []) (key→underway key value c.requires first) in
    (value→ended key value c.requires first (some→written room c.write_label.ensures c.unwrap.ensures)).written
