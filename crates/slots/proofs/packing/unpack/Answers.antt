-- `slots::packing::unpack` meets its contract: the kind and the numbers are cut out of the word.
-- Assumes nothing.
use borrow.Author.Tests.{lt-ltb, le-ltb}
use mathlib.Core.Path.{ap}
use Prim.Native.Nat.{◌/◌, ◌%◌}
use Rattle.slots.specs.declared.Operator.{Operator}
use Rattle.slots.specs.declared.Term.TheVariants.{Wrap}
use Rattle.slots.specs.Packing.{word_term}
use Rattle.slots.proofs.packing.unpack.Goals as goal

pub plain-requires : goal.plain-requires
plain-requires c = tt

pub returns-then-k-lt12 : goal.returns-then-k-lt12
unfolding word_term
returns-then-k-lt12 c = rw (lt-ltb _ _ c.if-k-lt12.true) c.plain.ensures

pub operator-o-requires : goal.operator-o-requires
operator-o-requires c = tt

pub returns : goal.returns
unfolding word_term
returns c =
    let w = c.args.w in
    rw (le-ltb _ _ c.if-k-lt12.false) (ap (λ (o : Operator). Wrap o (w / 2097152 % 65536)) c.operator-o.ensures)
