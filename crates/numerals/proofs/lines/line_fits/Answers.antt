-- `numerals::lines::line_fits` meets its contract: the number fits in what the key and the line's end leave.
-- Assumes nothing.
use mathlib.Core.Path.{sym, ◌∙◌}
use Prim.Native.Nat.{◌+◌}
use native.Mathlib.Omega.{arith}
use borrow.Author.Tests.{lt-leb}
use lib.ListN.{length}
use Rattle.grammar.specs.Marks.{decimal}
use Rattle.grammar.specs.Printed.{line}
use Rattle.meaning.proofs.Tests.{leb-behind}
use Rattle.numerals.proofs.Line.{length-line}
use Rattle.numerals.proofs.lines.line_fits.Goals as goal

pub returns-then-room-key : goal.returns-then-room-key
returns-then-room-key c =
    let a = c.args in
    let key = a.key.now in
    let value = decimal a.n in
    sym (lt-leb (length (line key value)) a.room (omega (arith, length-line key value)))

pub overflow_sub-left : goal.overflow_sub-left
overflow_sub-left c = omega arith

pub overflow_sub-left-2 : goal.overflow_sub-left-2
overflow_sub-left-2 c = omega arith

pub number_fits-requires : goal.number_fits-requires
number_fits-requires c = tt

pub returns : goal.returns
returns c =
    let a = c.args in
    let key = a.key.now in
    let value = decimal a.n in
    c.number_fits.ensures
    ∙ leb-behind (length key + 1) (length value) _ (length (line key value)) a.room (omega (arith, length-line key value)) (omega arith)
