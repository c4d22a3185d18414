-- `printing::answer_fits` meets its contract: no answer is longer than the longest head and lines. For any other room the head fits in
-- the scratch area, and what it leaves of the room is held to the lines.
-- Assumes nothing.
use mathlib.Core.Path.{◌≡◌, refl, sym, ap, ◌∙◌}
use Prim.Native.Nat.{ℕ, ◌+◌, ◌*◌, ◌≤◌}
use native.Mathlib.Omega.{arith}
use borrow.Author.Tests.{le-leb, lt-leb, leb-true}
use lib.ListN.{length}
use Rattle.areas.specs.Rows.{held}
use Rattle.printing.specs.Steps.{answer_head}
use Rattle.printing.proofs.Answers.{packed_answer, length-answer-head, length-joined, answer-fits}
use Rattle.printing.proofs.Lengths.{length-answer}
use Rattle.printing.proofs.answer_fits.Goals as goal
use Rattle.printing.proofs.answer_fits.Goals.{After-write_answer_head-size}

pub returns-then-count-room : goal.returns-then-count-room
returns-then-count-room c =
    let a = c.args in
    let k : 80 + 295 * length (held a.labels.now) ≤ a.room = omega
    (arith, leb-true c.labels_in-count.result _ c.if-count-room.true-raw, c.labels_in-count.ensures) in
    let text = length (packed_answer a.names a.rounds (held a.labels.now)) in
    sym (le-leb text a.room (omega (arith, length-answer a.names a.rounds (held a.labels.now))))

pub slice_bounds-write_answer_head-end : goal.slice_bounds-write_answer_head-end
slice_bounds-write_answer_head-end c = refl

pub write_answer_head-size-requires : goal.write_answer_head-size-requires
write_answer_head-size-requires c = length-answer-head c.args.rounds c.labels_in-count.result

-- the head, by how many labels the row has
head-size : (c : After-write_answer_head-size) → let a = c.args in
    c.write_answer_head-size.result ≡ length (answer_head a.rounds (length (held a.labels.now)))
head-size c = c.write_answer_head-size.ensures.size ∙ ap (λ (n : ℕ). length (answer_head c.args.rounds n)) c.labels_in-count.ensures

pub returns-then-room-size : goal.returns-then-room-size
returns-then-room-size c =
    let a = c.args in
    let text = length (packed_answer a.names a.rounds (held a.labels.now)) in
    sym (lt-leb text a.room (omega (
      arith,
      head-size (goal.at.returns-then-room-size c).After-write_answer_head-size,
      c.if-room-size.true,
      length-joined a.names a.rounds (held a.labels.now),
    )))

pub label_lines_fit-requires : goal.label_lines_fit-requires
label_lines_fit-requires c = tt

pub returns : goal.returns
returns c =
    let a = c.args in
    answer-fits a.names a.rounds (held a.labels.now) a.room (head-size (goal.at.returns c).After-write_answer_head-size) c.if-room-size.false
    c.label_lines_fit.ensures
