-- What a conversion answers: it was made, or the area is as it was.
-- Assumes nothing.
use mathlib.Core.Path.{◌≡◌, sym, ap, ◌∙◌}
use mathlib.Core.Bool.{Bool}
use mathlib.Core.Logic.{◌⊎◌, inl, inr}
use mathlib.Core.List.{List}
use Prim.Native.Nat.{ℕ, suc, ◌/◌, ◌%◌, ◌≤◌, ◌<◌}
use native.Mathlib.Decide.{ℕ_discrete}
use native.Mathlib.Omega.{arith}
use borrow.Author.Tests.{eq-eqb, ne_eqb, le-leb, lt-leb}
use lib.ListN.{length}
use Rattle.meaning.specs.Rounds.{pick}
use Rattle.areas.specs.Areas.{put}
use Rattle.conversions.specs.Conversions.{Converted, in_use, narrow_answer}

module _ {answer : ℕ} {given area : List ℕ} where
  pub made : {area' : List ℕ} → answer ≡ 0 → area' ≡ put given area → Converted answer given area area' 0
  made e d = record { answers = sym e; areas = d ∙ rw (eq-eqb answer 0 e) }

  pub refused : {r : ℕ} → answer ≡ suc r → Converted answer given area area (suc r)
  refused e = record { answers = sym e; areas = rw (ne_eqb answer 0 (omega arith)) }

module _ (words area : List ℕ) where
  pub narrow_short : (length words % 2 ≡ 0 → ⊥) ⊎ (length area < length words / 2) → narrow_answer words area ≡ 1
  narrow_short h = elim (ℕ_discrete (length words % 2) 0) [
    | no odd ↦ rw (ne_eqb (length words % 2) 0 odd)
    | yes even ↦ elim h [
      | inl odd ↦ absurd (odd even)
      | inr short ↦ rw (eq-eqb (length words % 2) 0 even, lt-leb (length words / 2) (length area) short)
    ]
  ]

  pub narrow-looked : length words % 2 ≡ 0 → length words / 2 ≤ length area → (used : Bool) → used ≡ in_use words
      → narrow_answer words area ≡ pick used 11 0
  narrow-looked even fits used e =
      rw (eq-eqb (length words % 2) 0 even, le-leb (length words / 2) (length area) fits) (ap (λ (b : Bool). pick b 11 0) (sym e))
