-- `order=all` to `order=a:1,..,a:31` with one name widens: the second order allows every label that is listed. (Both are rows of the
-- table in Alphabets.antt.)
-- Assumes nothing.
use mathlib.Core.Path.{refl, ap}
use mathlib.Core.Logic.{inl, inr}
use mathlib.Core.List.{[], ◌∷◌}
use Prim.Native.Nat.{ℕ, zero, suc, ◌≤◌}
use native.Mathlib.Omega.{arith}
use native.Mathlib.Decide.{ℕ_discrete}
use Rattle.meaning.specs.Labels.{Label, size}
use Rattle.meaning.specs.Sets.{◌∈◌}
use Rattle.meaning.specs.Descriptions.{all, only}
use Rattle.meaning.specs.Answers.{Allows}
use Rattle.meaning.specs.Widening.{same, Listable, Widens}
use Rattle.meaning.proofs.Members.{in-append}
use Rattle.meaning.proofs.Alphabets.{single, up_to}

in-up_to : (n x : ℕ) → suc x ≤ n → (suc x ∷ []) ∈ up_to n
unfolding up_to
in-up_to zero x h = absurd (omega arith)
in-up_to (suc n) x h =
    (in-append (suc x ∷ []) (up_to n) ((suc n ∷ []) ∷ [])).1
    (elim (ℕ_discrete x n) [ yes e ↦ inr (inl (ap (λ (y : ℕ). suc y ∷ []) e)) | no d ↦ inl (in-up_to n x (omega arith)) ])

allows-all : (a : Label) → Listable 1 a → Allows (only (up_to 31)) a
unfolding size
allows-all [] l = inr refl
allows-all (zero ∷ []) l = inr refl
allows-all (suc x ∷ []) l = inl (in-up_to 31 x (omega (arith, l.1)))
allows-all (x ∷ y ∷ a) l = absurd (omega (arith, l.0))

pub all-widens : Widens single all single (only (up_to 31))
all-widens = record { words = refl; terms = (same _, tt); bodies = refl; root = refl; orders = λ a l allowed. allows-all a l }
