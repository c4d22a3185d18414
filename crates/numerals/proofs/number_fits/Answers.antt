-- `numerals::number_fits` meets its contract: no number is longer than the longest, and any other room is held to its length.
-- Assumes nothing.
use mathlib.Core.Path.{refl, sym, ap}
use Prim.Native.Nat.{ℕ}
use native.Mathlib.Omega.{arith}
use borrow.Author.Tests.{le-leb}
use lib.Dec.{leb}
use lib.ListN.{length}
use Rattle.grammar.specs.Marks.{decimal}
use Rattle.grammar.proofs.Decimal.{length-decimal}
use Rattle.numerals.proofs.number_fits.Goals as goal

pub returns-then-room-ge-LONGEST_NUMBER : goal.returns-then-room-ge-LONGEST_NUMBER
returns-then-room-ge-LONGEST_NUMBER c =
    let a = c.args in
    sym (le-leb (length (decimal a.n)) a.room (omega (arith, length-decimal a.n)))

pub slice_bounds-write_digits-end : goal.slice_bounds-write_digits-end
slice_bounds-write_digits-end c = refl

pub write_digits-requires : goal.write_digits-requires
write_digits-requires c = length-decimal c.args.n

pub returns : goal.returns
returns c = ap (λ (k : ℕ). leb k c.args.room) c.write_digits.ensures.size
