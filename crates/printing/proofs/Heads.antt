-- How long the head of an answer or a refusal can be: its two numbers have at most twenty digits each.
-- Assumes nothing.
use mathlib.Core.List.{◌++◌}
use Prim.Native.Nat.{ℕ, ◌+◌, ◌≤◌}
use native.Mathlib.Omega.{arith}
use lib.ListN.{length, length-append}
use Rattle.meaning.specs.Bytes.{Text}
use Rattle.grammar.specs.Marks.{decimal}
use Rattle.grammar.specs.Printed.{line}
use Rattle.grammar.proofs.Decimal.{length-decimal}
use Rattle.numerals.proofs.Line.{length-line}
use Rattle.printing.specs.Steps.{head_text}

pub length-head : (said key : Text) (n : ℕ) (next : Text) (m : ℕ) → length said + length key + length next ≤ 38 → length (head_text said key n next m) ≤ 80
length-head said key n next m h =
    let one = line key (decimal n) in
    let two = line next (decimal m) in
    rw (length-append said (one ++ two), length-append one two, length-line key (decimal n), length-line next (decimal m))
    (omega (arith, length-decimal n, length-decimal m))
