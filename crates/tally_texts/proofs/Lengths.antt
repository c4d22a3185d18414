-- For callers: how long the text of a tally can be, which is what an area must have to hold every one, that a text that fits has its
-- length answered, and that what is answered lies within the area.
-- Assumes nothing.
use mathlib.Core.Path.{◌≡◌, refl}
use mathlib.Core.List.{List, [], ◌∷◌}
use Prim.Native.Nat.{ℕ, ◌+◌, ◌≤◌, zero-le}
use native.Mathlib.Omega.{arith}
use lib.ListN.{length, length-append}
use Rattle.meaning.specs.Bytes.{Text}
use Rattle.grammar.specs.Marks.{digits, decimal}
use Rattle.grammar.specs.Printed.{line}
pub use Rattle.grammar.proofs.Areas.{fits-is_some, some-within, printed-within}
use Rattle.grammar.proofs.Decimal.{length-decimal}
use Rattle.numerals.proofs.Line.{length-line}
use Rattle.tally.specs.declared.Tally.{Tally}
use Rattle.tally.specs.Figures.{refusal_numbers, refused}
use Rattle.tally_texts.specs.Texts.{reason_key, reason_lines, tally_text}

-- No number has more than twenty digits.
length-count-line : (key : Text) (n : ℕ) → length (line key (decimal n)) ≤ length key + 21
length-count-line key n = omega (arith, length-line key (decimal n), length-decimal n)

longest : List ℕ → ℕ
longest [] = 0
longest (n ∷ ns) = length (reason_key n) + 21 + longest ns

length-reasons : (ns xs : List ℕ) → length (reason_lines ns xs) ≤ longest ns
unfolding reason_lines longest
length-reasons [] xs = zero-le
length-reasons (n ∷ ns) [] = zero-le
length-reasons (n ∷ ns) (x ∷ xs) =
    rw (length-append (line (reason_key n) (decimal x)) (reason_lines ns xs)) (omega (arith, length-count-line (reason_key n) x, length-reasons ns xs))

seven-lines : longest refusal_numbers ≡ 204
unfolding longest digits
seven-lines = refl

pub length-tally : (t : Tally) → length (tally_text t) ≤ 353
unfolding tally_text
length-tally t =
    simp length-append
    (omega (
      arith,
      length-decimal t.descriptions,
      length-decimal t.answered,
      length-decimal (refused t),
      length-decimal t.labels,
      length-decimal t.rounds,
      length-reasons refusal_numbers t.refusals,
      seven-lines,
    ))
