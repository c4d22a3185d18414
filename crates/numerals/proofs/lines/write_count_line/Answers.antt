-- `numerals::lines::write_count_line` meets its contract: the key, the number and the line's end where they fit, and else nothing.
-- Assumes nothing.
use mathlib.Core.Path.{refl}
use native.Mathlib.Omega.{arith}
use lib.ListN.{length}
use Rattle.grammar.specs.Marks.{decimal}
use Rattle.grammar.specs.Printed.{line}
use Rattle.grammar.proofs.Areas.{test_fits, written→some, some→written}
use Rattle.numerals.proofs.Line.{length-line, value→ended}
use Rattle.numerals.proofs.lines.write_count_line.Goals as goal

-- the key is written, and the value behind it
pub returns : goal.returns
returns c =
    let a = c.args in
    let value = decimal a.n in
    let fits = test_fits (length (line a.key.now value)) (length a.text.now) c.line_fits.ensures c.if-not-line_fits.false in
    let key = some→written (omega (arith, fits, length-line a.key.now value)) c.in_ok-at.ensures refl in
    written→some fits (value→ended a.key.now value fits key c.write_digits.ensures).written
