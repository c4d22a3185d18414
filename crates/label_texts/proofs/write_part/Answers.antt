-- `label_texts::write_part` meets its contract: the name, a colon and the number, one behind the other.
-- Assumes nothing.
use mathlib.Core.Path.{refl}
use Rattle.table.specs.Decoded.{name_of}
use Rattle.grammar.specs.Forms.{colon}
use Rattle.grammar.specs.Marks.{decimal}
use Rattle.grammar.proofs.Areas.{some→written}
use Rattle.grammar.proofs.Underway.{underway-first, underway-byte, underway-last, lent-room}
use Rattle.label_texts.proofs.write_part.Goals as goal

-- the name is written, the colon behind it, and the number is last
pub returns : goal.returns
returns c =
    let a = c.args in
    let named = underway-first {s = name_of 8 a.name} refl c.requires c.write_name-end.ensures in
    let behind = underway-byte {todo = decimal a.times} {b = colon} named in
    underway-last behind (some→written (lent-room behind) c.write_number.ensures c.unwrap.ensures)
