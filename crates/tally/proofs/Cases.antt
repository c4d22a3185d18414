-- The three cases of an addition.
-- Assumes nothing.
use mathlib.Core.Path.{◌≡◌, refl}
use mathlib.Core.Bool.{true, false}
use Rattle.std.specs.Prelude.{Ok, Err}
use Rattle.tally.specs.declared.Verdict.{Verdict}
use Rattle.tally.specs.declared.Tally.{Tally}
use Rattle.tally.specs.declared.LeftOut.TheVariants.{NoVerdict, Full}
use Rattle.tally.specs.Additions.{given, after, fits, addition, Adds}

module _ (t : Tally) (v : Verdict) where
  pub not-given : given v ≡ false → Adds t v t (Err NoVerdict)
  unfolding addition
  not-given none = rw (none, addition) (refl, refl)

  pub no_room : given v ≡ true → fits (after t v) ≡ false → Adds t v t (Err Full)
  unfolding addition
  no_room some full = rw (some, full, addition) (refl, refl)

  pub taken_in : given v ≡ true → fits (after t v) ≡ true → Adds t v (after t v) (Ok tt)
  unfolding addition
  taken_in some room = rw (some, room, addition) (refl, refl)
