-- There and back: what was widened is narrowed to what it was, and what was narrowed is widened to what it was. And the number of a label of
-- at most 12 names is widened to the two words that the label has.
-- Assumes nothing.
use mathlib.Core.Path.{◌≡◌, refl, sym, ap, ap₂, ◌∙◌}
use mathlib.Core.Bool.{Bool, false, not, ◌||◌, false≢true}
use mathlib.Core.List.{List, [], ◌∷◌}
use Prim.Native.Nat.{ℕ, ◌*◌, ◌/◌, ◌%◌, ◌^◌, ◌≤◌, ◌<◌}
use native.Mathlib.Nat.{pow-le-pow_right, lt_of_lt_of_le}
use native.Mathlib.Decide.{ℕ_discrete}
use native.Mathlib.Omega.{arith}
use borrow.Author.Tests.{eq-eqb, ne_eqb}
use lib.Dec.{eqb, lit<}
use lib.ListN.{length}
use Rattle.meaning.specs.Labels.{Label, number, size, in_words}
use Rattle.meaning.specs.Legal.{Each}
use Rattle.meaning.proofs.Digits.{size→small}
use Rattle.labels.proofs.Refinement.{number_bound}
use Rattle.conversions.specs.Conversions.{widened, lowers, in_use}

pub length-widened : (ns : List ℕ) → length (widened ns) ≡ 2 * length ns
unfolding widened
length-widened [] = refl
length-widened (n ∷ ns) = let ih = length-widened ns in omega arith

pub length-lowers : (ws : List ℕ) → length (lowers ws) ≡ length ws / 2
unfolding lowers
length-lowers [] = refl
length-lowers (l ∷ []) = refl
length-lowers (l ∷ u ∷ ws) = let ih = length-lowers ws in omega arith

-- one word to two loses nothing
pub narrow-widened : (ns : List ℕ) → (in_use (widened ns) ≡ false) × (lowers (widened ns) ≡ ns)
unfolding widened in_use lowers
narrow-widened [] = (refl, refl)
narrow-widened (n ∷ ns) = let ih = narrow-widened ns in (ih.0, ap (λ (r : List ℕ). n ∷ r) ih.1)

-- nor does the way back, where it is not refused
used-zero : (upper : ℕ) (more : Bool) → not (eqb upper 0) || more ≡ false → (upper ≡ 0) × (more ≡ false)
used-zero upper more e = elim (ℕ_discrete upper 0) [
  | yes z ↦ (z, rw (eq-eqb upper 0 z) at e)
  | no d ↦ absurd (false≢true (sym e ∙ rw (ne_eqb upper 0 d)))
]

pub widened-narrow : (ws : List ℕ) → length ws % 2 ≡ 0 → in_use ws ≡ false → widened (lowers ws) ≡ ws
unfolding widened in_use lowers
widened-narrow [] even free = refl
widened-narrow (l ∷ []) even free = absurd (omega arith)
widened-narrow (l ∷ u ∷ ws) even free =
    let p = used-zero u (in_use ws) free in
    ap₂ (λ (x : ℕ) (r : List ℕ). l ∷ x ∷ r) (sym p.0) (widened-narrow ws (omega arith) p.1)

-- The words of a label whose number one word held.
pub widened-labels : (ns : List ℕ) → Each (λ n. n < 2 ^ 60) ns → in_words ns ≡ widened ns
unfolding in_words widened
widened-labels [] h = refl
widened-labels (n ∷ ns) h =
    let lower : n % 2 ^ 60 ≡ n = omega (arith, h.0) in
    let upper : n / 2 ^ 60 ≡ 0 = omega (arith, h.0) in
    rw (lower, upper) (ap (λ (r : List ℕ). n ∷ 0 ∷ r) (widened-labels ns h.1))

pub few-names-fit : (a : Label) → length a ≤ 12 → size a ≤ 31 → number a < 2 ^ 60
few-names-fit a few small = lt_of_lt_of_le (number_bound a (size→small a small)) (pow-le-pow_right {n = 32} (lit< tt) {j = 12} few)

pub few-names-widened : (a : Label) → length a ≤ 12 → size a ≤ 31 → in_words (number a ∷ []) ≡ widened (number a ∷ [])
few-names-widened a few small = widened-labels (number a ∷ []) (few-names-fit a few small, tt)
