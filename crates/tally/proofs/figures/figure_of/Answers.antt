-- `tally::figures::figure_of` meets its contract: one case for an answer, one for a number that no refusal has, one for the others.
-- Assumes nothing.
use mathlib.Core.Path.{refl, sym, ◌∙◌}
use native.Mathlib.Omega.{arith}
use lib.ListN.{get_or-eq_default}
use Rattle.std.specs.Prelude.{Some, None}
use Rattle.tally.proofs.Held.{held}
use Rattle.tally.proofs.Places.{figure-answered, figure-elsewhere, by_place}
use Rattle.tally.proofs.figures.figure_of.Goals as goal

pub returns-then-reason-eq-ANSWER : goal.returns-then-reason-eq-ANSWER
returns-then-reason-eq-ANSWER c = figure-answered c.args.tally c.if-reason-eq-ANSWER.true

pub returns-in-Some : goal.returns-in-Some
returns-in-Some c =
    figure-elsewhere c.args.tally c.if-reason-eq-ANSWER.false (by_place c.args.reason (Some c.in-Some.place) c.in-Some.ensures).0

pub returns-in-None : goal.returns-in-None
returns-in-None c =
    let t = c.args.tally in
    sym (get_or-eq_default t.refusals 0 (omega (arith, by_place c.args.reason None c.in-None.ensures, (held t _ c.well_formed.0).seven)))
    ∙ figure-elsewhere t c.if-reason-eq-ANSWER.false refl
