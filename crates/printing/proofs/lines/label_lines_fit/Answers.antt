use mathlib.Core.Path.{◌≡◌, sym, ap, ◌∙◌}
use Prim.Native.Nat.{ℕ, ◌*◌, ◌≤◌, ◌<◌}
use native.Mathlib.Omega.{arith}
use borrow.Author.Tests.{le-leb, lt-leb}
use lib.ListN.{length, get_or}
use Rattle.areas.specs.Rows.{held}
use Rattle.grammar.specs.Printed.{printed_label}
use Rattle.labels.proofs.Codes.{code_of}
use Rattle.label_texts.specs.Packed.{name_texts, counts_of}
use Rattle.label_texts.proofs.Tau.{length_label}
use Rattle.printing.proofs.LabelLines.{lines_from, length-lines, lines_end, lines-short}
use Rattle.printing.proofs.lines.label_lines_fit.Goals as goal
use Rattle.printing.proofs.lines.label_lines_fit.Goals.{After-label_length-size}

pub returns-then-end-room : goal.returns-then-end-room
returns-then-end-room c =
    let a = c.args in
    let k : 295 * length (held a.labels.now) ≤ a.room = omega (arith, c.labels_in-end.ensures) in
    sym (le-leb (length (lines_from a.names (held a.labels.now) 0)) a.room (omega (arith, lines-short a.names (held a.labels.now))))

-- a label that is measured: it is one of the row
measured : (c : After-label_length-size) → let a = c.args in
    (c.loop-i.i < length (held a.labels.now))
    × (c.label_length-size.result ≡ length (printed_label (name_texts a.names) (counts_of (get_or (held a.labels.now) c.loop-i.i 0))))
measured c =
    let a = c.args in (
      omega (arith, c.labels_in-end.ensures, c.loop-i-test.true),
      c.label_length-size.ensures
          ∙ ap (λ (n : ℕ). length (printed_label (name_texts a.names) (counts_of n))) (code_of c.read_label.ensures),
    )

pub loop-i-init : goal.loop-i-init
loop-i-init c = omega arith

pub overflow_add-size : goal.overflow_add-size
overflow_add-size c =
    let a = c.args in
    omega (arith, (measured (goal.at.overflow_add-size c).After-label_length-size).1, length_label a.names (get_or (held a.labels.now) c.loop-i.i 0))

pub returns-then-left-size : goal.returns-then-left-size
returns-then-left-size c =
    let a = c.args in
    let m = measured (goal.at.returns-then-left-size c).After-label_length-size in
    sym (lt-leb (length (lines_from a.names (held a.labels.now) 0)) a.room
    (omega (arith, m.1, length-lines a.names (held a.labels.now) c.loop-i.i m.0)))

pub loop-i-preserved : goal.loop-i-preserved
loop-i-preserved c =
    let a = c.args in
    let m = measured (goal.at.loop-i-preserved c).After-label_length-size in
    omega (arith, m.0, m.1, length-lines a.names (held a.labels.now) c.loop-i.i m.0)

pub returns : goal.returns
returns c =
    let a = c.args in
    let none = lines_end a.names (held a.labels.now) c.loop-i.i (omega (arith, c.labels_in-end.ensures)) in
    sym (le-leb (length (lines_from a.names (held a.labels.now) 0)) a.room (omega (arith, ap length none)))
