-- `words::numbers::digit_at` meets its contract: past the end, and at any other byte, there is no digit.
-- Assumes nothing.
use mathlib.Core.Path.{sym, ◌∙◌}
use native.Mathlib.Omega.{arith}
use Rattle.grammar.specs.Text.{is_digit}
use Rattle.words.proofs.Rests.{digit-none, digit-other, digit-here}
use Rattle.words.proofs.numbers.digit_at.Goals as goal

pub returns-then-line-at : goal.returns-then-line-at
unfolding is_digit
returns-then-line-at c =
    let a = c.args in
    elim c.then-line-at.branch [
      | goal.then-line-at-via-then-line-at w ↦ digit-none a.line.now a.at (omega arith)
      | goal.then-line-at-via-else-line-at+then-not-is_ascii_digit w ↦
          digit-other a.line.now a.at (omega arith) (sym w.is_ascii_digit.ensures.value ∙ w.if-not-is_ascii_digit.true)
    ]

pub returns : goal.returns
unfolding is_digit
returns c =
    let a = c.args in
    digit-here a.line.now a.at (omega arith) (sym c.is_ascii_digit.ensures.value ∙ c.if-not-is_ascii_digit.false)
