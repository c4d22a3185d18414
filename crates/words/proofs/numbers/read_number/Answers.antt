-- `words::numbers::read_number` meets its contract: by its first digit and the one after it.
-- Assumes nothing.
use mathlib.Core.Path.{sym, ◌∙◌}
use native.Mathlib.Omega.{arith}
use Rattle.words.proofs.Rests.{digit_small, number-none, zero-read, one-read, two-read}
use Rattle.words.proofs.numbers.read_number.Goals as goal

pub returns-in_default : goal.returns-in_default
returns-in_default c = number-none _ (sym c.digit_at.ensures ∙ c.in_default.is)

pub returns-then-tens-eq0 : goal.returns-then-tens-eq0
returns-then-tens-eq0 c = zero-read _ (sym c.digit_at.ensures ∙ c.in-Some.is) c.if-tens-eq0.true

pub returns-in_default-digit_at : goal.returns-in_default-digit_at
returns-in_default-digit_at c =
    one-read _ (sym c.digit_at.ensures ∙ c.in-Some.is) c.if-tens-eq0.false (sym c.digit_at-2.ensures ∙ c.in_default-digit_at.is)

pub overflow_mul-result : goal.overflow_mul-result
overflow_mul-result c = omega (arith, digit_small c.args.rest.now 0 (sym c.digit_at.ensures ∙ c.in-Some.is))

pub overflow_add-result : goal.overflow_add-result
overflow_add-result c =
    let line = c.args.rest.now in
    let tens = digit_small line 0 (sym c.digit_at.ensures ∙ c.in-Some.is) in
    let ones = digit_small line 1 (sym c.digit_at-2.ensures ∙ c.in-Some-digit_at.is) in
    omega arith

pub returns : goal.returns
returns c = two-read _ (sym c.digit_at.ensures ∙ c.in-Some.is) c.if-tens-eq0.false (sym c.digit_at-2.ensures ∙ c.in-Some-digit_at.is)
