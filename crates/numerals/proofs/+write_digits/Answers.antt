-- `numerals::write_digits` meets its contract: the digits of a tenth of the number, and the last digit behind them.
-- Assumes nothing.
use mathlib.Core.Path.{ap}
use Prim.Native.Nat.{◌+◌, ◌%◌}
use native.Mathlib.Omega.{arith}
use lib.ListN.{length}
use Rattle.grammar.proofs.Underway.{written-nil, written_byte}
use Rattle.grammar.proofs.Decimal.{decimal_digit, decimal-last, length_last}
use Rattle.numerals.proofs.+write_digits.Goals as goal

pub bounds-text-0 : goal.bounds-text-0
bounds-text-0 t c = omega (arith, ap length (decimal_digit c.args.n c.if-n-lt10.true))

pub returns-then-n-lt10 : goal.returns-then-n-lt10
returns-then-n-lt10 t c =
    let a = c.args in
    rw (decimal_digit a.n c.if-n-lt10.true) (written_byte (48 + a.n) (written-nil a.text.now) (omega (arith, ap length (decimal_digit a.n c.if-n-lt10.true))))

pub write_digits-at-requires : goal.write_digits-at-requires
write_digits-at-requires t c = (omega arith, omega (arith, length_last c.args.n (omega arith) (omega arith)))

pub bounds-text-at : goal.bounds-text-at
bounds-text-at t c = omega (arith, length_last c.args.n (omega arith) (omega arith))

pub overflow_add-result : goal.overflow_add-result
overflow_add-result t c = omega (arith, length_last c.args.n (omega arith) (omega arith))

pub returns : goal.returns
returns t c =
    let n = c.args.n in
    rw (decimal-last n (omega arith) (omega arith)) (written_byte (48 + n % 10) c.write_digits-at.ensures
    (omega (arith, length_last n (omega arith) (omega arith))))
