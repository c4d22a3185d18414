-- Any sequence of additions from the empty tally, of which no more is known than that each kept its promise, with the verdicts that were
-- taken in, in their order.
-- Assumes nothing.
use Rattle.std.specs.Prelude.{List, [], ◌∷◌, ◌++◌, Result, Ok, Err}
use Rattle.tally.specs.declared.Verdict.{Verdict}
use Rattle.tally.specs.declared.Tally.{Tally}
use Rattle.tally.specs.declared.LeftOut.{LeftOut}
use Rattle.tally.specs.Figures.{figures_of}
use Rattle.tally.specs.Additions.{Adds}

abbrev pub taken_with : Result (Unit {0}) LeftOut → Verdict → List Verdict → List Verdict
taken_with (Ok taken_in) v taken = taken ++ (v ∷ [])
taken_with (Err why) v taken = taken

pub data Tallied : Tally → List Verdict → Type 0 where
  begun : Tallied (figures_of []) []
  added : (t t' : Tally) (v : Verdict) (answer : Result (Unit {0}) LeftOut) (taken : List Verdict) → Tallied t taken → Adds t v t' answer
      → Tallied t' (taken_with answer v taken)
