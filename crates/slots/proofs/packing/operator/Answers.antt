-- `slots::packing::operator` meets its contract: each number has its operator.
-- Assumes nothing.
use borrow.Author.Tests.{ne_eqb}
use Rattle.slots.proofs.packing.operator.Goals as goal

pub returns-in-12 : goal.returns-in-12
returns-in-12 c = rw c.in-12.is

pub returns-in-13 : goal.returns-in-13
returns-in-13 c = rw c.in-13.is

pub returns-in-14 : goal.returns-in-14
returns-in-14 c = rw c.in-14.is

pub returns-in-15 : goal.returns-in-15
returns-in-15 c = rw c.in-15.is

pub returns-in_default : goal.returns-in_default
returns-in_default c =
    let k = c.args.k in
    let r = c.in_default.in_default-own.rest in
    rw (ne_eqb k 12 r.0.0.0.1, ne_eqb k 13 r.0.0.1, ne_eqb k 14 r.0.1, ne_eqb k 15 r.1)
