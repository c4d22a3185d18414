-- How long an answer can be, which is what an area must have to hold every one, so that nothing is measured; and, for callers, that what is
-- answered lies within the area.
-- Assumes nothing.
use mathlib.Core.List.{List, map}
use Prim.Native.Nat.{ℕ, ◌+◌, ◌*◌, ◌≤◌}
use native.Mathlib.Omega.{arith}
use lib.ListN.{length}
use Rattle.grammar.specs.Printed.{answer_text}
pub use Rattle.grammar.proofs.Areas.{some-within, printed-within}
use Rattle.label_texts.specs.Packed.{name_texts, counts_of}
use Rattle.printing.proofs.LabelLines.{lines-short}
use Rattle.printing.proofs.Answers.{length-answer-head, length-joined}

pub length-answer : (names : List ℕ) (rounds : ℕ) (labels : List ℕ) →
    length (answer_text (name_texts names) rounds (map counts_of labels)) ≤ 80 + 295 * length labels
length-answer names rounds labels =
    omega (arith, length-joined names rounds labels, length-answer-head rounds (length labels), lines-short names labels)
