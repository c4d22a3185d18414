-- `names::hide_one` meets its contract: the digit of the name is masked away from its word. Assumes nothing.
use Prim.Native.Nat.{◌*◌, ◌^◌, ◌≤◌}
use native.Mathlib.Omega.{arith}
use lib.Pow.{pow_mono}
use Rattle.meaning.specs.Labels.{without}
use Rattle.names.proofs.Counts.{lower-cleared, upper-cleared, last-cleared, none-cleared}
use Rattle.names.proofs.hide_one.Goals as goal

pub overflow_sub-result-then-n-lt-WORD_NAMES : goal.overflow_sub-result-then-n-lt-WORD_NAMES
overflow_sub-result-then-n-lt-WORD_NAMES c =
    let place : 2 ^ (5 * c.args.n) ≤ 2 ^ 55 = pow_mono {j = 55} (omega arith) in
    omega arith

pub returns-then-n-lt-WORD_NAMES : goal.returns-then-n-lt-WORD_NAMES
unfolding without
returns-then-n-lt-WORD_NAMES c =
    let a = c.args in
    lower-cleared a.a a.n (omega arith) (omega arith)

pub returns-then-n : goal.returns-then-n
unfolding without
returns-then-n c =
    let a = c.args in
    upper-cleared a.a a.n (omega arith) (omega arith) (omega arith)

pub returns-then-n-2 : goal.returns-then-n-2
unfolding without
returns-then-n-2 c =
    let a = c.args in
    last-cleared a.a a.n (omega arith) (omega arith)

pub returns : goal.returns
unfolding without
returns c =
    let a = c.args in
    none-cleared a.a a.n (omega arith) (omega arith)
