-- `printing::write_answer` meets its contract: the head, and the lines of the labels behind it, where both fit.
-- Assumes nothing.
use mathlib.Core.List.{List}
use Prim.Native.Nat.{ℕ, ◌≤◌}
use native.Mathlib.Omega.{arith}
use lib.ListN.{length}
use Rattle.areas.specs.Rows.{held}
use Rattle.meaning.specs.Bytes.{Text}
use Rattle.grammar.specs.Areas.{Written}
use Rattle.grammar.proofs.Areas.{test_fits, written→some}
use Rattle.grammar.proofs.Underway.{Underway, underway-first, underway-last, lent-room}
use Rattle.printing.specs.Steps.{answer_head}
use Rattle.printing.proofs.LabelLines.{lines_from}
use Rattle.printing.proofs.Answers.{packed_answer, answer-joined, length-joined}
use Rattle.printing.proofs.write_answer.Goals as goal

-- the head is written, and the lines are to come
head-written : (names : List ℕ) (rounds : ℕ) (ls : List ℕ) {before mid : Text} {k : ℕ} → length (packed_answer names rounds ls) ≤ length before →
    Written (answer_head rounds (length ls)) before mid k → Underway (packed_answer names rounds ls) (lines_from names ls 0) before mid k
head-written names rounds ls fits u = underway-first {s = answer_head rounds (length ls)} (answer-joined names rounds ls) fits u

pub write_answer_head-at-requires : goal.write_answer_head-at-requires
write_answer_head-at-requires c =
    let a = c.args in
    let fits = test_fits _ _ c.answer_fits.ensures c.if-answer_fits.true in
    rw c.labels_in.ensures (omega (arith, fits, length-joined a.names a.rounds (held a.labels.now)))

pub write_label_lines-requires : goal.write_label_lines-requires
write_label_lines-requires c =
    let a = c.args in
    let fits = test_fits _ _ c.answer_fits.ensures c.if-answer_fits.true in
    lent-room (head-written a.names a.rounds (held a.labels.now) fits (rw c.labels_in.ensures at c.write_answer_head-at.ensures))

pub returns-then-answer_fits : goal.returns-then-answer_fits
returns-then-answer_fits c =
    let a = c.args in
    let fits = test_fits _ _ c.answer_fits.ensures c.if-answer_fits.true in
    let head = head-written a.names a.rounds (held a.labels.now) fits (rw c.labels_in.ensures at c.write_answer_head-at.ensures) in
    written→some fits (underway-last head c.write_label_lines.ensures)
