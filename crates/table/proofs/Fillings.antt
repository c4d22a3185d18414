-- A list that is filled up to a length: one entry more, and its start.
-- Assumes nothing.
use mathlib.Core.Path.{◌≡◌, refl, sym, ap, ◌∙◌}
use mathlib.Core.List.{List, [], ◌∷◌, ◌++◌, append-nil}
use Prim.Native.Nat.{ℕ, zero, suc, ◌+◌, ◌≤◌}
use native.Mathlib.Nat.{not-suc-le-zero, le_of_suc-le-suc}
use native.Mathlib.Omega.{arith}
use lib.ListN.{length, get_or, take, drop, set, replicate}
use lib.Seq.{take-nil}
use Rattle.areas.specs.Areas.{zeroed}
use Rattle.table.specs.Encoded.{filled}

module _ {A : Type 0} (x : A) where
  pub length-filled : (n : ℕ) (ys : List A) → length (filled n x ys) ≡ n
  unfolding filled
  length-filled zero ys = refl
  length-filled (suc n) [] = ap suc (length-filled n [])
  length-filled (suc n) (y ∷ ys) = ap suc (length-filled n ys)

  pub filled-replicate : (n : ℕ) → replicate n x ≡ filled n x []
  unfolding filled
  filled-replicate zero = refl
  filled-replicate (suc n) = ap {B = List A} (λ l. x ∷ l) (filled-replicate n)

  pub filled_more : (n : ℕ) (ys : List A) (y : A) → set (filled n x ys) (length ys) y ≡ filled n x (ys ++ (y ∷ []))
  unfolding filled
  filled_more zero ys y = refl
  filled_more (suc n) [] y = refl
  filled_more (suc n) (z ∷ ys) y = ap {B = List A} (λ l. z ∷ l) (filled_more n ys y)

  -- the next entry of a list, or the filler past its end
  pub filled_next : (n i : ℕ) (ys : List A) → set (filled n x (take i ys)) i (get_or ys i x) ≡ filled n x (take (suc i) ys)
  unfolding filled
  filled_next zero i ys = refl
  filled_next (suc n) zero [] = refl
  filled_next (suc n) zero (y ∷ ys) = refl
  filled_next (suc n) (suc i) [] = let ih = filled_next n i [] in ap {B = List A} (λ l. x ∷ l) (rw (take-nil i) at ih)
  filled_next (suc n) (suc i) (y ∷ ys) = ap {B = List A} (λ l. y ∷ l) (filled_next n i ys)

  -- what stands before, and the filler after it
  pub filled-past : (n k : ℕ) (ys zs : List A) → n ≡ length ys + k → filled n x (ys ++ zs) ≡ ys ++ filled k x zs
  unfolding filled
  filled-past n k [] zs e = let h : n ≡ k = omega arith in rw h
  filled-past zero k (y ∷ ys) zs e = absurd (omega arith)
  filled-past (suc n) k (y ∷ ys) zs e = ap {B = List A} (λ l. y ∷ l) (filled-past n k ys zs (omega arith))

  pub filled-after : (n k : ℕ) (ys : List A) → n ≡ length ys + k → filled n x ys ≡ ys ++ filled k x []
  filled-after n k ys e = ap (filled n x) (sym (append-nil ys)) ∙ filled-past n k ys [] e

  pub filled-two : (n m k : ℕ) → n ≡ m + k → filled n x [] ≡ filled m x [] ++ filled k x []
  unfolding filled
  filled-two n zero k e = let h : n ≡ k = omega arith in rw h
  filled-two zero (suc m) k e = absurd (omega arith)
  filled-two (suc n) (suc m) k e = ap {B = List A} (λ l. x ∷ l) (filled-two n m k (omega arith))

  -- a part at the start that is given, the rest as it was
  pub filled-front : (n : ℕ) (ys : List A) → length ys ≤ n → ys ++ drop (length ys) (filled n x []) ≡ filled n x ys
  unfolding filled
  filled-front zero [] h = refl
  filled-front (suc n) [] h = refl
  filled-front zero (y ∷ ys) h = absurd (not-suc-le-zero h)
  filled-front (suc n) (y ∷ ys) h = ap {B = List A} (λ l. y ∷ l) (filled-front n ys (le_of_suc-le-suc h))

-- An area that is set to 0 as far as it reaches.
pub zeroed-filled : (n : ℕ) (ws : List ℕ) → length ws ≤ n → zeroed n ws ≡ filled (length ws) 0 []
unfolding zeroed filled
zeroed-filled zero [] h = refl
zeroed-filled zero (w ∷ ws) h = absurd (omega arith)
zeroed-filled (suc n) [] h = refl
zeroed-filled (suc n) (w ∷ ws) h = ap (λ (r : List ℕ). 0 ∷ r) (zeroed-filled n ws (le_of_suc-le-suc h))
