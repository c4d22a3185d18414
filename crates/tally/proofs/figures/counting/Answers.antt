-- `tally::figures::counting` meets its contract: figure by figure, and none passes its most.
-- Assumes nothing.
use mathlib.Core.Path.{refl, ◌∙◌}
use native.Mathlib.Omega.{arith}
use lib.Dec.{eqb}
use Rattle.tally.proofs.Held.{held}
use Rattle.tally.proofs.Givens.{given-limits}
use Rattle.tally.proofs.Room.{one-from_bool, fitting, after-descriptions, after-answered, after-labels, raisable, counted-after}
use Rattle.tally.proofs.figures.counting.Goals as goal

pub overflow_add-result : goal.overflow_add-result
overflow_add-result c =
    let whole = fitting _ c.requires.is_within in
    omega (arith, whole.descriptions, after-descriptions c.args.tally c.args.verdict)

pub overflow_add-result-2 : goal.overflow_add-result-2
overflow_add-result-2 c =
    let whole = fitting _ c.requires.is_within in
    omega (arith, whole.answered, after-answered c.args.tally c.args.verdict, one-from_bool (eqb c.args.verdict.reason 0), c.from.ensures)

pub one_more-requires : goal.one_more-requires
one_more-requires c =
    let t = c.args.tally in
    raisable t c.args.verdict _ refl (held t _ c.well_formed.0) c.requires.is_within

pub overflow_cast-result : goal.overflow_cast-result
overflow_cast-result c =
    let limits = given-limits c.args.verdict c.requires.is_given in
    omega (arith, limits.few-labels)

pub overflow_add-result-3 : goal.overflow_add-result-3
overflow_add-result-3 c =
    let whole = fitting _ c.requires.is_within in
    omega (arith, whole.labels, after-labels c.args.tally c.args.verdict)

pub overflow_cast-verdict : goal.overflow_cast-verdict
overflow_cast-verdict c =
    let limits = given-limits c.args.verdict c.requires.is_given in
    omega (arith, limits.few-rounds)

pub returns : goal.returns
returns c =
    let t = c.args.tally in
    counted-after t c.args.verdict (held t _ c.well_formed.0).seven (c.from.ensures ∙ one-from_bool (eqb c.args.verdict.reason 0))
    c.one_more.ensures c.max.ensures
