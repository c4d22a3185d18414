-- Words set to 0.
-- Assumes nothing.
use mathlib.Core.Path.{◌≡◌, refl, ap}
use mathlib.Core.List.{List, [], ◌∷◌, ◌++◌}
use Prim.Native.Nat.{ℕ, zero, suc, ◌≤◌, min}
use native.Mathlib.Nat.{le_of_suc-le-suc}
use native.Mathlib.Omega.{arith}
use lib.ListN.{length, drop, replicate}
use Rattle.areas.specs.Areas.{zeroed}

pub length-zeroed : (i : ℕ) (ws : List ℕ) → length (zeroed i ws) ≡ length ws
unfolding zeroed
length-zeroed zero ws = refl
length-zeroed (suc i) [] = refl
length-zeroed (suc i) (w ∷ ws) = ap suc (length-zeroed i ws)

-- An area that is long enough, and one of any length, which is set to 0 as far as it reaches.
pub zeroed-front : (n : ℕ) (ws : List ℕ) → n ≤ length ws → zeroed n ws ≡ replicate n 0 ++ drop n ws
unfolding zeroed
zeroed-front zero ws h = refl
zeroed-front (suc n) [] h = absurd (omega arith)
zeroed-front (suc n) (w ∷ ws) h = ap (λ (r : List ℕ). 0 ∷ r) (zeroed-front n ws (le_of_suc-le-suc h))

pub zeroed-reached : (n : ℕ) (ws : List ℕ) → zeroed n ws ≡ replicate (min n (length ws)) 0 ++ drop (min n (length ws)) ws
unfolding zeroed
zeroed-reached zero ws = let none : min 0 (length ws) ≡ 0 = omega arith in rw none
zeroed-reached (suc n) [] = let none : min (suc n) 0 ≡ 0 = omega arith in rw none
zeroed-reached (suc n) (w ∷ ws) =
    let one : min (suc n) (suc (length ws)) ≡ suc (min n (length ws)) = omega arith in
    rw one (ap (λ (r : List ℕ). 0 ∷ r) (zeroed-reached n ws))
