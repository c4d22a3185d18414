-- `tally::figures::has_room` meets its contract: descriptions first, then the figure of its number, then labels.
-- Assumes nothing.
use native.Mathlib.Omega.{arith}
use Rattle.tally.proofs.Held.{held}
use Rattle.tally.proofs.Givens.{given-limits}
use Rattle.tally.proofs.Room.{no-more-descriptions, no-more-of-it, by-labels}
use Rattle.tally.proofs.figures.has_room.Goals as goal

pub returns-then-tally-eq-MOST : goal.returns-then-tally-eq-MOST
returns-then-tally-eq-MOST c =
    let t = c.args.tally in
    no-more-descriptions t c.args.verdict (held t _ c.well_formed.0) c.requires c.if-tally-eq-MOST.true

pub returns-then-figure_of : goal.returns-then-figure_of
returns-then-figure_of c =
    let t = c.args.tally in
    no-more-of-it t c.args.verdict (held t _ c.well_formed.0) c.requires _ c.figure_of.ensures c.if-tally-eq-MOST.false c.if-figure_of.true

pub overflow_cast-result : goal.overflow_cast-result
overflow_cast-result c =
    let limits = given-limits c.args.verdict c.requires in
    omega (arith, limits.few-labels)

pub returns : goal.returns
returns c =
    let t = c.args.tally in
    by-labels t c.args.verdict (held t _ c.well_formed.0) c.requires _ c.figure_of.ensures
    (omega (arith, c.figure_of.type_inv)) c.if-tally-eq-MOST.false c.if-figure_of.false
