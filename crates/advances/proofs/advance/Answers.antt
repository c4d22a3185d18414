-- `advances::advance` meets its contract. Assumes nothing.
use Rattle.areas.proofs.Held.{held-long}
use Rattle.sets.proofs.Steps.{handed_on}
use Rattle.advances.proofs.Advancing.{advanced-quiet, advanced-large, advanced-kept}
use Rattle.advances.proofs.advance.Goals as goal

pub returns-then-is_quiet : goal.returns-then-is_quiet
returns-then-is_quiet c =
    advanced-quiet c.shape_in-shape.ensures c.is_quiet.ensures c.if-is_quiet.true c.set_part.ensures

pub returns-in_err-count : goal.returns-in_err-count
returns-in_err-count c =
    rw (handed_on c.from_residual.result c.from_residual.ensures.0)
    (advanced-large (held-long _ _ c.arrive.auto.out) (rw c.shape_in-shape.ensures at c.in_err-count.ensures))

pub returns : goal.returns
returns c =
    advanced-kept (held-long _ _ c.arrive.auto.out)
    (rw c.shape_in-shape.ensures at c.in_ok-count.ensures) c.labels_of-made.ensures c.keep_new.ensures
