-- A stable round stays, and then the set of a term, the union over all rounds, is its set in that round.
-- Assumes nothing.
use mathlib.Core.Path.{◌≡◌, ap, subst, ◌∙◌, fun_ext}
use mathlib.Core.Logic.{◌↔◌}
use mathlib.Core.List.{List, [], ◌∷◌, map}
use Prim.Native.Nat.{ℕ, zero, suc, ◌+◌, ◌≤◌, ◌<◌, zero-le}
use native.Mathlib.Nat.{le_refl, le_dest, add-zero, add-suc}
use native.Mathlib.Omega.{arith}
use native.Mathlib.Decide.{dec_lt}
use lib.ListN.{length}
use Rattle.meaning.specs.Labels.{Label}
use Rattle.meaning.specs.Sets.{◌∈◌, at}
use Rattle.meaning.specs.Descriptions.{Description}
use Rattle.meaning.specs.Rounds.{worked, body_sets, next, round_sets, equation_sets, InSet}
use Rattle.meaning.specs.Limits.{Once, total}
use Rattle.meaning.proofs.Order.{◌≺◌, ≺-irrefl, ≺-trans}
use Rattle.meaning.proofs.Ascent.{sorted-once, once-count}
use Rattle.meaning.proofs.Members.{ascending-unique}
use Rattle.meaning.proofs.Growth.{AllWithin, round-grows, rounds-grow, round-ascends}

-- Round k+1 has the equation sets of round k.
abbrev pub Stable : Description → ℕ → Type 0
Stable d k = equation_sets d (suc k) ≡ equation_sets d k

pub next-same : (d : Description) (k j : ℕ) → equation_sets d k ≡ equation_sets d j → round_sets d (suc k) ≡ round_sets d (suc j)
unfolding round_sets next
next-same d k j e = ap (λ eqs. worked d eqs (length d.terms)) e

stays-more : (d : Description) (k : ℕ) → Stable d k → (more : ℕ) → round_sets d (suc (k + more)) ≡ round_sets d (suc k)
stays-more d k e zero = rw (add-zero k)
stays-more d k e (suc more) =
    rw (add-suc k more) (next-same d (suc (k + more)) (suc k) (ap (body_sets d) (stays-more d k e more)) ∙ next-same d (suc k) k e)

pub round_sets-stable : (d : Description) (k : ℕ) → Stable d k → (j : ℕ) → k ≤ j → round_sets d (suc j) ≡ round_sets d (suc k)
round_sets-stable d k e j h =
    let x = le_dest h in
    subst (λ (i : ℕ). round_sets d (suc i) ≡ round_sets d (suc k)) x.1 (stays-more d k e x.0)

-- Every round lies within the one that follows a stable round.
pub all-rounds : (d : Description) (k : ℕ) → Stable d k → (j : ℕ) → AllWithin (round_sets d j) (round_sets d (suc k))
all-rounds d k e j t a m =
    let later = rounds-grow d j (suc (k + j)) (omega arith) t a m in
    subst (λ (sets : List (List Label)). a ∈ at sets t) (round_sets-stable d k e (k + j) (omega arith)) later

pub union-is-stable : (d : Description) (k : ℕ) → Stable d k → (t : ℕ) (a : Label) → InSet d t a ↔ (a ∈ at (round_sets d (suc k)) t)
union-is-stable d k e t a = (λ x. all-rounds d k e x.round t a x.there, λ m. record { round = suc k; there = m })

-- Sets that grow without repetition have more labels together, unless they stay the same.
pub once-round : (d : Description) (k t : ℕ) → Once (at (round_sets d k) t)
once-round d k t = sorted-once ◌≺◌ ≺-irrefl ≺-trans (at (round_sets d k) t) (round-ascends d k t)

abbrev pub AllOnce : List (List Label) → Type 0
AllOnce sets = (t : ℕ) → Once (at sets t)

rest-once : (s : List Label) (sets : List (List Label)) → AllOnce (s ∷ sets) → AllOnce sets
rest-once s sets h t = h (suc t)

pub total-grows : (sets sets' : List (List Label)) → AllOnce sets → AllWithin sets sets'
    → (total sets ≤ total sets') × (total sets' ≤ total sets → AllWithin sets' sets)
unfolding total
total-grows [] [] o w = (zero-le, λ h t a m. m)
total-grows [] (s' ∷ sets') o w =
    let here = once-count [] s' tt (w 0) in
    let rest = total-grows [] sets' (λ t. tt) (λ t a m. absurd m) in
    (zero-le, λ h. elim [ zero ↦ here.1 (omega arith) | suc t ↦ rest.1 (omega arith) t ])
total-grows (s ∷ sets) [] o w =
    let here = once-count s [] (o 0) (w 0) in
    let rest = total-grows sets [] (λ t. o (suc t)) (λ t. w (suc t)) in
    (omega arith, λ h t a m. absurd m)
total-grows (s ∷ sets) (s' ∷ sets') o w =
    let here = once-count s s' (o 0) (w 0) in
    let rest = total-grows sets sets' (λ t. o (suc t)) (λ t. w (suc t)) in
    (omega arith, λ h. elim [ zero ↦ here.1 (omega (arith, rest.0)) | suc t ↦ rest.1 (omega (arith, here.0)) t ])

-- A round whose labels are no more than those of the round before has the same equation sets.
pub no_more : (d : Description) (k : ℕ) → total (round_sets d (suc k)) ≤ total (round_sets d k) → Stable d k
no_more d k h =
    let back = (total-grows (round_sets d k) (round_sets d (suc k)) (once-round d k) (round-grows d k)).1 h in
    let same : (t : ℕ) → at (round_sets d (suc k)) t ≡ at (round_sets d k) t =
    λ t. ascending-unique (at (round_sets d (suc k)) t) (at (round_sets d k) t) (round-ascends d (suc k) t) (round-ascends d k t) (back t)
    (round-grows d k t) in
    ap (λ (f : ℕ → List Label). map f d.bodies) (fun_ext same)

-- So a round before which none was stable has as many labels as its number.
pub unstable-total : (d : Description) (k : ℕ) → ((j : ℕ) → j < k → Stable d j → ⊥) → k ≤ total (round_sets d k)
unstable-total d zero h = zero-le
unstable-total d (suc k) h =
    let ih = unstable-total d k (λ j l. h j (omega arith)) in
    more (dec_lt (total (round_sets d k)) (total (round_sets d (suc k)))) ih
  where
    more : Dec (total (round_sets d k) < total (round_sets d (suc k))) → k ≤ total (round_sets d k) → suc k ≤ total (round_sets d (suc k))
    more (yes l) ih = omega arith
    more (no n) ih = absurd (h k (le_refl (suc k)) (no_more d k (omega arith)))
