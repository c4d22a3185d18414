-- What stands at each place of the words and of the lower words, and how a look at the upper words goes on.
-- Assumes nothing.
use mathlib.Core.Path.{◌≡◌, refl, ◌∙◌}
use mathlib.Core.Bool.{true, false, not, ◌||◌}
use mathlib.Core.List.{List, [], ◌∷◌}
use Prim.Native.Nat.{ℕ, zero, suc, ◌+◌, ◌*◌, ◌/◌, ◌<◌, ◌≤◌}
use native.Mathlib.Omega.{arith}
use borrow.Author.Tests.{eq-eqb, ne_eqb}
use lib.Dec.{eqb}
use lib.ListN.{length, get_or, drop, length-drop}
use lib.Seq.{drop-cons}
use Rattle.conversions.specs.Conversions.{widened, lowers, in_use}

two-more : (n : ℕ) → 2 * suc n ≡ suc (suc (2 * n))
two-more n = omega arith

pub widened-get : (ns : List ℕ) (i : ℕ) → (get_or (widened ns) (2 * i) 0 ≡ get_or ns i 0) × (get_or (widened ns) (2 * i + 1) 0 ≡ 0)
unfolding widened
widened-get [] i = (refl, refl)
widened-get (n ∷ ns) zero = (refl, refl)
widened-get (n ∷ ns) (suc i) =
    let odd : 2 * suc i + 1 ≡ suc (suc (2 * i + 1)) = omega arith in
    rw (odd, two-more i) (widened-get ns i)

pub lowers-get : (ws : List ℕ) (i : ℕ) → i < length ws / 2 → get_or (lowers ws) i 0 ≡ get_or ws (2 * i) 0
unfolding lowers
lowers-get [] i h = absurd (omega arith)
lowers-get (l ∷ []) i h = absurd (omega arith)
lowers-get (l ∷ u ∷ ws) zero h = refl
lowers-get (l ∷ u ∷ ws) (suc i) h = rw (two-more i) (lowers-get ws i (omega arith))

-- A look at the upper words: the next one decides, or those behind it.
step : (ws : List ℕ) (j : ℕ) → suc j < length ws → in_use (drop j ws) ≡ not (eqb (get_or ws (suc j) 0) 0) || in_use (drop (suc (suc j)) ws)
unfolding in_use
step ws j h = rw (drop-cons ws j 0 (omega arith), drop-cons ws (suc j) 0 h)

none_left : (ws : List ℕ) → length ws ≤ 1 → in_use ws ≡ false
unfolding in_use
none_left [] h = refl
none_left (l ∷ []) h = refl
none_left (l ∷ u ∷ ws) h = absurd (omega arith)

-- how far it has come: the label at i is the next
abbrev pub Looked : (ws : List ℕ) (i : ℕ) → Type 0
Looked ws i = in_use ws ≡ in_use (drop (2 * i) ws)

module _ (ws : List ℕ) (i : ℕ) (c : Looked ws i) where
  next : i < length ws / 2 → in_use ws ≡ not (eqb (get_or ws (2 * i + 1) 0) 0) || in_use (drop (2 * (i + 1)) ws)
  next h =
      let odd : 2 * i + 1 ≡ suc (2 * i) = omega arith in
      let even : 2 * (i + 1) ≡ suc (suc (2 * i)) = omega arith in
      c ∙ rw (odd, even) (step ws (2 * i) (omega arith))

  pub look-found : i < length ws / 2 → (get_or ws (2 * i + 1) 0 ≡ 0 → ⊥) → in_use ws ≡ true
  look-found h d = next h ∙ rw (ne_eqb (get_or ws (2 * i + 1) 0) 0 d)

  pub look-on : i < length ws / 2 → get_or ws (2 * i + 1) 0 ≡ 0 → Looked ws (i + 1)
  look-on h z = next h ∙ rw (eq-eqb (get_or ws (2 * i + 1) 0) 0 z)

  pub look-end : length ws / 2 ≤ i → in_use ws ≡ false
  look-end h = c ∙ none_left (drop (2 * i) ws) (omega (arith, length-drop (2 * i) ws))
