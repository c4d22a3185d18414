-- `tally_texts::write_reason` meets its contract: the word, the number of the refusal, and the rest of the line behind them.
-- Assumes nothing.
use native.Mathlib.Omega.{arith}
use Rattle.meaning.specs.Bytes.{ascii}
use Rattle.grammar.specs.Marks.{decimal}
use Rattle.grammar.specs.Printed.{line}
use Rattle.grammar.proofs.Areas.{some→written}
use Rattle.grammar.proofs.Underway.{underway-first, underway-step, next-room}
use Rattle.tally_texts.proofs.Behind.{behind-last}
use Rattle.tally_texts.proofs.Reasons.{reason-joined}
use Rattle.tally_texts.proofs.write_reason.Goals as goal

pub returns : goal.returns
returns c =
    let a = c.args in
    let rest = line (ascii "=") (decimal a.n) in
    let named = some→written (omega (arith, c.requires)) c.copy.ensures c.unwrap-named.ensures in
    let w = underway-first {s = ascii "reason"} (reason-joined a.number a.n) c.requires named in
    let u = underway-step w (some→written (next-room (decimal a.number) rest w) c.write_number.ensures c.unwrap.ensures) in
    behind-last rest u c.add_line.ensures
