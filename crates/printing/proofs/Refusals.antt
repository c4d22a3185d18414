-- The text of a refusal: its head and the line of its column, and how long both can be.
-- Assumes nothing.
use mathlib.Core.Path.{◌≡◌, ap}
use mathlib.Core.List.{◌++◌, append_assoc}
use Prim.Native.Nat.{ℕ, ◌+◌, ◌≤◌}
use native.Mathlib.Omega.{arith}
use lib.ListN.{length, length-append}
use Rattle.meaning.specs.Bytes.{Text, ascii}
use Rattle.grammar.specs.Marks.{decimal}
use Rattle.grammar.specs.Printed.{line, refused_text}
use Rattle.grammar.proofs.Decimal.{length-decimal}
use Rattle.numerals.proofs.Line.{length-line}
use Rattle.printing.specs.Steps.{head_text}
use Rattle.printing.proofs.Heads.{length-head}

-- what stands before the line of the column, and that line
abbrev pub refusal_head : (reason at : ℕ) → Text
refusal_head reason at = head_text (ascii "answer=refused\n") (ascii "reason=") reason (ascii "line=") at

abbrev pub column_line : ℕ → Text
column_line column = line (ascii "column=") (decimal column)

module _ (reason at column : ℕ) where
  pub refusal-joined : refusal_head reason at ++ column_line column ≡ refused_text reason at column
  unfolding refused_text
  refusal-joined =
      ap (λ (s : Text). ascii "answer=refused\n" ++ s)
      (append_assoc (line (ascii "reason=") (decimal reason)) (line (ascii "line=") (decimal at)) (column_line column))

  pub length-refusal-joined : length (refused_text reason at column) ≡ length (refusal_head reason at) + length (column_line column)
  length-refusal-joined = rw (← refusal-joined) (length-append (refusal_head reason at) (column_line column))

  pub length-refusal : length (refused_text reason at column) ≤ 112
  length-refusal =
      omega (
        arith,
        length-refusal-joined,
        length-head (ascii "answer=refused\n") (ascii "reason=") reason (ascii "line=") at (omega arith),
        length-line (ascii "column=") (decimal column),
        length-decimal column,
      )
