-- Lines with a number: by the test that the definitions give and by that of the code.
-- Assumes nothing.
use mathlib.Core.Path.{◌≡◌, refl, ap, ◌∙◌}
use mathlib.Core.Bool.{Bool}
use Prim.Native.Nat.{ℕ, suc}
use lib.ListN.{drop}
use Rattle.std.specs.Prelude.{Result, Ok, Err}
use Rattle.meaning.specs.Bytes.{Text}
use Rattle.meaning.specs.Answers.{Fault}
use Rattle.grammar.specs.Text.{Past, past, stuck, Placed}
use Rattle.grammar.specs.Forms.{count_line}
use Rattle.grammar.specs.Reading.{taken_if, formed, take_number, reached, halted, after_line, one_line}
use Rattle.faults.specs.CodedFaults.{flaw_of}
use Rattle.keyed.specs.Numbers.{between, NumberTo}
use Rattle.words.specs.declared.Taken.{Taken}
use Rattle.keyed.specs.declared.BadLine.{BadLine}
use Rattle.keyed.proofs.Walks.{gone-to, gone-bad}

other_test : (key : Text) (f g : ℕ → Bool) → ((n : ℕ) → f n ≡ g n) → (x : Fault) (line : ℕ) (s : Text)
    → one_line (take_number key f x) line s ≡ one_line (take_number key g x) line s
unfolding take_number
other_test key f g same x line s = ap (after_line line s) (with_number (count_line key s))
  where
    with_number : (d : Past (Placed ℕ)) → formed d (λ n. taken_if (f n.it) x n.from n.it) ≡ formed d (λ n. taken_if (g n.it) x n.from n.it)
    with_number (past n r) = ap (λ t. taken_if t x n.from n.it r) (same n.it)
    with_number (stuck r) = refl

-- What a step over a line with a number says, by the test that the definitions give.
module _ (key : Text) (low below : ℕ) (test : ℕ → Bool) (same : (n : ℕ) → between low below n ≡ test n) (x : Fault) (line : ℕ) (s : Text)
    {r : Result (Taken ℕ) BadLine} (w : NumberTo s line below r (one_line (take_number key (between low below) x) line s)) where
  pub number-to : {t : Taken ℕ} → r ≡ Ok t → reached t.value (suc line) (drop t.bytes s) ≡ one_line (take_number key test x) line s
  number-to e = gone-to w.walks e ∙ other_test key (between low below) test same x line s

  pub number-bad : {b : BadLine} → r ≡ Err b → halted (flaw_of b.flaw) b.line ≡ one_line (take_number key test x) line s
  number-bad e = gone-bad w.walks e ∙ other_test key (between low below) test same x line s
