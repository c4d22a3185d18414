-- `courses::hand_on` meets its contract. The loop's invariant: what is entered so far, with what is to come, is all that is entered.
-- Assumes nothing.
use Rattle.courses.proofs.Handing.{HandingOn}
use Rattle.courses.proofs.hand_on.Given as goal

abbrev pub invariant-loop-e : goal.invariant-loop-e
invariant-loop-e l = HandingOn l.bodies l.initial.news l.news l.some l.e
