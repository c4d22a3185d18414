-- One theorem about two passes over the terms: a relation of sets that holds of nothing, and of what two terms make of related
-- sets, holds of all the sets. Growth of rounds, widening, ascending order and the labels' lengths are its instances.
-- Assumes nothing.
use mathlib.Core.Path.{◌≡◌, refl}
use mathlib.Core.Logic.{◌⊎◌, inl, inr}
use mathlib.Core.List.{List, [], ◌∷◌}
use Prim.Native.Nat.{ℕ, zero, suc, ◌≤◌, ◌<◌, compare, Ordering}
use native.Mathlib.Omega.{arith}
use lib.ListN.{length, length-append, get_or-append, get_or-eq_default}
use lib.Seq.{get_or_at}
use Rattle.meaning.specs.Labels.{Label}
use Rattle.meaning.specs.Sets.{at, ascending}
use Rattle.meaning.specs.Descriptions.{Description, term_at}
use Rattle.meaning.specs.Rounds.{shape, made, worked}
use Rattle.meaning.proofs.Tests.{Says, compare-says}

-- Where the sets of the first n terms stand.
pub length-worked : (d : Description) (eqs : List (List Label)) (n : ℕ) → length (worked d eqs n) ≡ n
unfolding worked
length-worked d eqs zero = refl
length-worked d eqs (suc n) =
    let sets = worked d eqs n in
    let ih = length-worked d eqs n in
    omega (arith, length-append sets (ascending (made eqs sets (shape d (term_at d n))) ∷ []))

pub worked-earlier : (d : Description) (eqs : List (List Label)) (n i : ℕ) → i < n → at (worked d eqs (suc n)) i ≡ at (worked d eqs n) i
unfolding worked
worked-earlier d eqs n i h =
    get_or-append (worked d eqs n) (ascending (made eqs (worked d eqs n) (shape d (term_at d n))) ∷ []) [] i
    (omega (arith, length-worked d eqs n))

pub worked-last : (d : Description) (eqs : List (List Label)) (n : ℕ)
    → at (worked d eqs (suc n)) n ≡ ascending (made eqs (worked d eqs n) (shape d (term_at d n)))
unfolding worked
worked-last d eqs n = get_or_at (worked d eqs n) (ascending (made eqs (worked d eqs n) (shape d (term_at d n)))) [] [] n (length-worked d eqs n)

pub worked-past : (d : Description) (eqs : List (List Label)) (n i : ℕ) → n ≤ i → at (worked d eqs n) i ≡ []
worked-past d eqs n i h = get_or-eq_default (worked d eqs n) [] (omega (arith, length-worked d eqs n))

-- a number against the last of so many
last-split : (o : Ordering) (i n : ℕ) → Says ◌<◌ o i n → (i < n) ⊎ ((i ≡ n) ⊎ (suc n ≤ i))
last-split Ordering.lt i n h = inl h
last-split Ordering.eq i n h = inr (inl h)
last-split Ordering.gt i n h = inr (inr h)

pub against-last : (i n : ℕ) → (i < n) ⊎ ((i ≡ n) ⊎ (suc n ≤ i))
against-last i n = last-split (compare i n) i n (compare-says i n)

module _ (R : List Label → List Label → Type 0) (nothing : R [] []) (d d' : Description) where
  carry-step : (eqs eqs' : List (List Label)) (n : ℕ) → ((i : ℕ) → R (at (worked d eqs n) i) (at (worked d' eqs' n) i))
      → R (ascending (made eqs (worked d eqs n) (shape d (term_at d n)))) (ascending (made eqs' (worked d' eqs' n) (shape d' (term_at d' n))))
      → (i : ℕ) → (i < n) ⊎ ((i ≡ n) ⊎ (suc n ≤ i)) → R (at (worked d eqs (suc n)) i) (at (worked d' eqs' (suc n)) i)
  carry-step eqs eqs' n ih last i (inl h) = rw (worked-earlier d eqs n i h, worked-earlier d' eqs' n i h) (ih i)
  carry-step eqs eqs' n ih last i (inr (inl e)) = rw (e, worked-last d eqs n, worked-last d' eqs' n) last
  carry-step eqs eqs' n ih last i (inr (inr h)) = rw (worked-past d eqs (suc n) i h, worked-past d' eqs' (suc n) i h) nothing

  pub carried : (eqs eqs' : List (List Label))
      → ((n : ℕ) (sets sets' : List (List Label)) → ((i : ℕ) → R (at sets i) (at sets' i))
      → R (ascending (made eqs sets (shape d (term_at d n)))) (ascending (made eqs' sets' (shape d' (term_at d' n)))))
      → (n i : ℕ) → R (at (worked d eqs n) i) (at (worked d' eqs' n) i)
  unfolding worked
  carried eqs eqs' step zero i = nothing
  carried eqs eqs' step (suc n) i =
      let ih = carried eqs eqs' step n in
      carry-step eqs eqs' n ih (step n (worked d eqs n) (worked d' eqs' n) ih) i (against-last i n)
