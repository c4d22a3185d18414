-- A line with a number, by its form and by the test of the number.
-- Assumes nothing.
use mathlib.Core.Path.{◌≡◌, ap}
use Prim.Native.Nat.{ℕ, ◌-◌, ◌≤◌, ◌<◌}
use borrow.Author.Tests.{lt-ltb, le-ltb, le-leb, lt-leb}
use lib.ListN.{length, drop}
use Rattle.meaning.specs.Bytes.{Text}
use Rattle.meaning.specs.Answers.{Fault, form}
use Rattle.grammar.specs.Text.{past, stuck, Placed}
use Rattle.grammar.specs.Forms.{count_line}
use Rattle.grammar.specs.Reading.{Taken, taken, faulty, taken_if, formed, take_number}
use Rattle.keyed.specs.Numbers.{between}
use Rattle.words.specs.Steps.{Stands}
use Rattle.keyed.proofs.LineFaults.{formed-stuck}

module _ (key : Text) (low below : ℕ) (f : Fault) (text : Text) where
  abbrev then-number : Placed ℕ → Text → Taken ℕ
  then-number n = taken_if (between low below n.it) f n.from n.it

  pub number-stuck : {p : ℕ} → Stands text p (stuck (drop p text)) (count_line key text)
      → faulty form (length text - p) ≡ take_number key (between low below) f text
  unfolding take_number
  number-stuck {p} s = formed-stuck then-number text p s.says

  module _ {n : Placed ℕ} {t : Text} (q : past n t ≡ count_line key text) where
    read_number : then-number n t ≡ take_number key (between low below) f text
    unfolding take_number
    read_number = ap (λ d. formed d then-number) q

    pub number-low : n.it < low → faulty f n.from ≡ take_number key (between low below) f text
    number-low h = rw (← read_number, lt-leb low n.it h)

    pub number-high : low ≤ n.it → below ≤ n.it → faulty f n.from ≡ take_number key (between low below) f text
    number-high h k = rw (← read_number, le-leb low n.it h, le-ltb n.it below k)

    pub number-between : low ≤ n.it → n.it < below → taken n.it t ≡ take_number key (between low below) f text
    number-between h k = rw (← read_number, le-leb low n.it h, lt-ltb n.it below k)
