-- `conversions::widen_all` meets its contract: there is room or there is none. Assumes nothing.
use Prim.Native.Nat.{◌/◌}
use native.Mathlib.Omega.{arith}
use lib.ListN.{length}
use borrow.Author.Tests.{le-leb, lt-leb}
use Rattle.conversions.proofs.Answers.{made, refused}
use Rattle.conversions.proofs.widen_all.Goals as goal

pub returns-then-words-numbers : goal.returns-then-words-numbers
returns-then-words-numbers c =
    let a = c.args in
    refused (rw (lt-leb (length a.numbers.now) (length a.words.now / 2) (omega arith)))

pub returns : goal.returns
returns c =
    let a = c.args in
    made (rw (le-leb (length a.numbers.now) (length a.words.now / 2) (omega arith))) c.lay_words.ensures
