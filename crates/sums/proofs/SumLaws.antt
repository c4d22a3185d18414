-- The sums of two rows, row by row, and what they make of the numbers of labels.
-- Assumes nothing.
use Rattle.std.proofs.Common.{◌≡◌, ℕ, ◌≤◌, Bool, true, false, ltb, List, [], ◌∷◌, ◌++◌, map, length, refl, ap, subst, ltb-false, ltb-true, Some, None}
use Rattle.meaning.specs.Labels.{Label, size, number, plus}
use Rattle.meaning.specs.Sets.{ascending, spread, product}
use Rattle.meaning.specs.Rounds.{pick}
use Rattle.meaning.proofs.Bags.{length-plus}
use Rattle.labels.specs.Packing.{packed}
use Rattle.labels.specs.Bags.{sum_of}
use Rattle.labels.proofs.Refinement.{Packs, sum_number}
use Rattle.sets.specs.Building.{enter}
use Rattle.sets.proofs.Refinement.{AllPack, each-outcome}
use Rattle.sets.proofs.Outcomes.{Summed, total, over, Anything, Result, summed-outcome}
use Rattle.sets.proofs.Steps.{Steady, steady-each, steady-enter, steady-summed}
use Rattle.sums.specs.Sums.{sum_in, row_of, sums_of}

pub steady-sum_in : (room a w : ℕ) → Steady room (sum_in room a w)
steady-sum_in room a w = steady-summed room (enter room) (sum_of a w) (steady-enter room)

pub steady-row_of : (room : ℕ) (bs : List ℕ) (a : ℕ) → Steady room (row_of room bs a)
steady-row_of room bs a = steady-each room (sum_in room a) bs (steady-sum_in room a)

pub steady-sums_of : (room : ℕ) (ls bs : List ℕ) → Steady room (sums_of room ls bs)
steady-sums_of room ls bs = steady-each room (row_of room bs) ls (steady-row_of room bs)

-- What they make of the numbers of labels.
plus-sums : {names : ℕ} (t : Bool) (c : Label) → ltb 31 (size c) ≡ t → length c ≡ names
    → Summed names (pick t None (Some (packed (number c)))) (c ∷ [])
plus-sums true c e w = over c (ltb-true 31 (size c) e)
plus-sums false c e w = total c (record { wide = w; few = ltb-false 31 (size c) e })

sum-sums : (names : ℕ) → names ≤ 24 → (a b : Label) → Packs names a → Packs names b
    → Summed names (sum_of (number a) (number b)) (plus a b ∷ [])
sum-sums names few a b p q =
    rw (sum_number a b few p q) (plus-sums _ (plus a b) refl (length-plus names a b p.wide q.wide))

row-outcome : (names room : ℕ) → names ≤ 24 → (a : Label) → Packs names a
    → (l M : List Label) → AllPack names l → AllPack names M
    → Result names room (spread (λ b. plus a b ∷ []) l ++ M) (row_of room (map number l) (number a) (map number (ascending M)))
row-outcome names room few a x l M p q =
    each-outcome names room Anything (λ K L w v i. tt) (sum_in room (number a)) (λ b. plus a b ∷ [])
    (λ b N r s i. summed-outcome names room (sum-sums names few a b x r) N s) l M p q tt

spread-turn : (f : Label → Label) (t : List Label) → spread (λ b. f b ∷ []) t ≡ map f t
unfolding spread
spread-turn f [] = refl
spread-turn f (b ∷ t) = ap (λ (l : List Label). f b ∷ l) (spread-turn f t)

pub sums-outcome : (names room : ℕ) → names ≤ 24 → (s t M : List Label) → AllPack names s → AllPack names t → AllPack names M
    → Result names room (product s t ++ M) (sums_of room (map number s) (map number t) (map number (ascending M)))
unfolding product
sums-outcome names room few s t M p q r =
    each-outcome names room Anything (λ K L w v i. tt) (row_of room (map number t)) (λ a. map (plus a) t) rows s M p r tt
  where
    rows : (a : Label) (N : List Label) → Packs names a → AllPack names N → Anything N
        → Result names room (map (plus a) t ++ N) (row_of room (map number t) (number a) (map number (ascending N)))
    rows a N x y i =
        subst (λ (l : List Label). Result names room (l ++ N) (row_of room (map number t) (number a) (map number (ascending N))))
        (spread-turn (plus a) t) (row-outcome names room few a x t N q y)
