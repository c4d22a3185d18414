-- `orderlines::take_order` meets its contract: no more words are lent on than a list has.
-- Assumes nothing.
use native.Mathlib.Omega.{arith}
use lib.ListN.{length-take}
use Rattle.orderlines.proofs.OrderEnds.{end-front}
use Rattle.orderlines.proofs.take_order.Goals as goal

pub slice_bounds-take_end-end : goal.slice_bounds-take_end-end
slice_bounds-take_end-end c = omega (arith, c.min-end.ensures)

pub slice_bounds-take_end-end-2 : goal.slice_bounds-take_end-end-2
slice_bounds-take_end-end-2 c = omega (arith, c.min-end.ensures, length-take c.min-end.result c.args.listed.now)

pub take_end-requires : goal.take_end-requires
take_end-requires c = omega (arith, c.min-end.ensures, length-take c.min-end.result c.args.listed.now)

pub returns : goal.returns
returns c = end-front _ _ _ _ _ _ c.min-end.ensures _ c.take_end.ensures
