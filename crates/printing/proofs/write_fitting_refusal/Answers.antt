-- `printing::write_fitting_refusal` meets its contract: the text of a refusal is a head and the line of the column.
-- Assumes nothing.
use Prim.Native.Nat.{ℕ, ◌≤◌}
use native.Mathlib.Omega.{arith}
use lib.ListN.{length}
use Rattle.meaning.specs.Bytes.{Text}
use Rattle.grammar.specs.Areas.{Written}
use Rattle.grammar.specs.Printed.{refused_text}
use Rattle.grammar.proofs.Areas.{fits-is_some, some→written}
use Rattle.grammar.proofs.Underway.{Underway, underway-first, underway-last, lent-room}
use Rattle.printing.proofs.Refusals.{refusal_head, column_line, refusal-joined, length-refusal-joined}
use Rattle.printing.proofs.write_fitting_refusal.Goals as goal

-- the head is written, and the column's line is to come
head-written : (reason line column : ℕ) {before mid : Text} {k : ℕ} → length (refused_text reason line column) ≤ length before
    → Written (refusal_head reason line) before mid k → Underway (refused_text reason line column) (column_line column) before mid k
head-written reason line column h u = underway-first {s = refusal_head reason line} (refusal-joined reason line column) h u

pub write_head-at-requires : goal.write_head-at-requires
write_head-at-requires c =
    let a = c.args in
    omega (arith, c.requires, length-refusal-joined a.reason a.line a.column)

pub unwrap-requires : goal.unwrap-requires
unwrap-requires c =
    let a = c.args in
    fits-is_some (lent-room (head-written a.reason a.line a.column c.requires c.write_head-at.ensures)) c.write_count_line.ensures

pub returns : goal.returns
returns c =
    let a = c.args in
    let w = head-written a.reason a.line a.column c.requires c.write_head-at.ensures in
    underway-last w (some→written (lent-room w) c.write_count_line.ensures c.unwrap.ensures)
