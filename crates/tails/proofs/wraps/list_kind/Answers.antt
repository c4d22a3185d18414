-- `tails::wraps::list_kind` meets its contract: each place has its list.
-- Assumes nothing.
use Rattle.tails.specs.Wraps.{list_kind}
use Rattle.tails.proofs.WrapLines.{wrap-rest}
use Rattle.tails.proofs.wraps.list_kind.Goals as goal

pub returns-in-12 : goal.returns-in-12
returns-in-12 c = rw c.in-12.is

pub returns-in-13 : goal.returns-in-13
returns-in-13 c = rw c.in-13.is

pub returns-in-14 : goal.returns-in-14
returns-in-14 c = rw c.in-14.is

pub returns-in-15 : goal.returns-in-15
returns-in-15 c = rw c.in-15.is

pub returns-in_default : goal.returns-in_default
returns-in_default c = wrap-rest list_kind c.args.k c.in_default.in_default-own.rest
