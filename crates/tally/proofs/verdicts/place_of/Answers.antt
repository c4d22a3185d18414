-- `tally::verdicts::place_of` meets its contract: one case for each number, and one for all others.
-- Assumes nothing.
use mathlib.Core.Path.{◌≡◌, refl, sym, ap}
use mathlib.Core.Bool.{false}
use Prim.Native.Nat.{ℕ}
use borrow.Author.Tests.{ne_eqb}
use lib.Dec.{ltb}
use Rattle.std.specs.Prelude.{Some, None}
use Rattle.meaning.specs.Rounds.{pick}
use Rattle.tally.specs.Figures.{refusal_numbers}
use Rattle.tally.specs.Additions.{among}
use Rattle.tally.specs.Steps.{position, place_of}
use Rattle.tally.proofs.Places.{place-behind}
use Rattle.tally.proofs.verdicts.place_of.Goals as goal

pub returns-in-1 : goal.returns-in-1
unfolding position
returns-in-1 c = sym (ap place_of c.in-1.is)

pub returns-in-2 : goal.returns-in-2
unfolding position
returns-in-2 c = sym (ap place_of c.in-2.is)

pub returns-in-3 : goal.returns-in-3
unfolding position
returns-in-3 c = sym (ap place_of c.in-3.is)

pub returns-in-4 : goal.returns-in-4
unfolding position
returns-in-4 c = sym (ap place_of c.in-4.is)

pub returns-in-5 : goal.returns-in-5
unfolding position
returns-in-5 c = sym (ap place_of c.in-5.is)

pub returns-in-7 : goal.returns-in-7
unfolding position
returns-in-7 c = sym (ap place_of c.in-7.is)

pub returns-in-10 : goal.returns-in-10
unfolding position
returns-in-10 c = sym (ap place_of c.in-10.is)

not-among : (n : ℕ)
    → ((((((Unit {0} × (n ≡ 1 → ⊥)) × (n ≡ 2 → ⊥)) × (n ≡ 3 → ⊥)) × (n ≡ 4 → ⊥)) × (n ≡ 5 → ⊥)) × (n ≡ 7 → ⊥)) × (n ≡ 10 → ⊥)
    → among n refusal_numbers ≡ false
unfolding among
not-among n r =
    rw (
      ne_eqb n 1 r.0.0.0.0.0.0.1,
      ne_eqb n 2 r.0.0.0.0.0.1,
      ne_eqb n 3 r.0.0.0.0.1,
      ne_eqb n 4 r.0.0.0.1,
      ne_eqb n 5 r.0.0.1,
      ne_eqb n 7 r.0.1,
      ne_eqb n 10 r.1,
    ) refl

pub returns-in_default : goal.returns-in_default
returns-in_default c =
    sym (ap (λ (p : ℕ). pick (ltb p 7) (Some p) None) (place-behind c.args.reason refusal_numbers (not-among c.args.reason c.in_default.in_default-own.rest)))
