-- What the type of a tally says of its figures: there are seven of refusals, and no figure of 32 bits is past its most.
-- Assumes nothing.
use mathlib.Core.Path.{◌≡◌, refl}
use mathlib.Core.Bool.{true}
use mathlib.Core.List.{List, [], ◌∷◌}
use Prim.Native.Nat.{ℕ, ◌≤◌}
use native.Mathlib.Omega.{arith}
use borrow.Author.Tests.{le-leb}
use lib.ListN.{length}
use mir.Val.{Val}
use denote.Laws.{Is}
use denote.Shadow.{shadow}
use denote.Array.{each}
use denote.Builtin.{u32}
use Rattle.tally.specs.declared.Tally.{Tally}
use Rattle.tally.specs.Additions.{most, all_fit}
use Rattle.tally.specs.contracts.Tally as row

pub record Held (t : Tally) : Type 0 where
  pub seven : length t.refusals ≡ 7
  pub descriptions : t.descriptions ≤ most
  pub answered : t.answered ≤ most
  pub labels : t.labels ≤ most
  pub rounds : t.rounds ≤ most
  pub refusals : all_fit t.refusals ≡ true

each_fits : (ns : List ℕ) (us : List Val) → shadow (each ℕ u32.own_val ns us) → all_fit ns ≡ true
unfolding all_fit
each_fits [] us held = refl
each_fits (n ∷ ns) [] held = absurd held
each_fits (n ∷ ns) (u ∷ us) held = rw (le-leb n most (omega (arith, held.0.1)), each_fits ns us held.1) refl

pub held : (t : Tally) (vs : List Val) → Is row.the_row t vs → Held t
held t vs is =
    let a = is.1.1 in
    record {
      seven = a.1.1.0.1.0.1;
      descriptions = omega (arith, a.0.1);
      answered = omega (arith, a.1.0.1);
      labels = omega (arith, a.1.1.1.0.1);
      rounds = omega (arith, a.1.1.1.1.0.1);
      refusals = each_fits _ _ a.1.1.0.1.1;
    }
