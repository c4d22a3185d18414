use mathlib.Core.Path.{◌≡◌, refl}
use Prim.Native.Nat.{◌+◌, ◌<◌}
use native.Mathlib.Omega.{arith}
use lib.ListN.{length, get_or}
use Rattle.areas.specs.Rows.{held}
use Rattle.labels.proofs.Codes.{code_of}
use Rattle.grammar.proofs.Underway.{underway-start, underway-step, underway-end, next-room}
use Rattle.printing.proofs.LabelLines.{label_line, lines_from, lines_step, lines_end}
use Rattle.printing.proofs.lines.write_label_lines.Goals as goal

pub loop-i-init : goal.loop-i-init
loop-i-init c = underway-start refl c.requires

pub write_label_line-at-requires : goal.write_label_line-at-requires
write_label_line-at-requires c =
    let a = c.args in
    let l = c.loop-i in
    let inner : l.i < length (held a.labels.now) = omega (arith, c.labels_in-i-end.ensures, c.loop-i-test.true) in
    rw (code_of c.read_label-label.ensures)
    (next-room (label_line a.names (get_or (held a.labels.now) l.i 0)) (lines_from a.names (held a.labels.now) (l.i + 1))
    (rw (lines_step a.names (held a.labels.now) l.i inner) at l.invariant))

pub loop-i-preserved : goal.loop-i-preserved
loop-i-preserved c =
    let a = c.args in
    let l = c.loop-i in
    let inner : l.i < length (held a.labels.now) = omega (arith, c.labels_in-i-end.ensures, c.loop-i-test.true) in
    let next = rw (lines_step a.names (held a.labels.now) l.i inner) at l.invariant in
    underway-step next (rw (code_of c.read_label-label.ensures) at c.write_label_line-at.ensures)

pub returns : goal.returns
returns c =
    let a = c.args in
    let l = c.loop-i in
    let over : l.i ≡ length (held a.labels.now) = omega (arith, c.labels_in-i-end.ensures) in
    underway-end (rw (lines_end a.names (held a.labels.now) l.i over) at l.invariant)
