-- A finite part of sets that passes a limit: so do the sets.
-- Assumes nothing.
use mathlib.Core.Path.{refl, subst}
use mathlib.Core.Logic.{◌⊎◌, inl, inr}
use mathlib.Core.Bool.{◌||◌}
use mathlib.Core.List.{List, [], ◌∷◌}
use Prim.Native.Nat.{ℕ, zero, suc, ◌≤◌, ◌<◌}
use native.Mathlib.Omega.{arith}
use native.Mathlib.Decide.{dec_lt}
use lib.Dec.{T, ltb, ltb→lt, lt→ltb}
use lib.ListN.{length}
use Rattle.meaning.specs.Labels.{Label, size}
use Rattle.meaning.specs.Sets.{◌∈◌}
use Rattle.meaning.specs.Descriptions.{Description}
use Rattle.meaning.specs.Rounds.{round_sets, Rounds}
use Rattle.meaning.specs.Limits.{total, some_long, some_over, over, PassesLimit}
use Rattle.meaning.proofs.Tests.{or_cases, or_left, or_right}
use Rattle.meaning.proofs.Ascent.{once-count}
use Rattle.meaning.proofs.Growth.{AllWithin}
use Rattle.meaning.proofs.Stability.{AllOnce, Stable, total-grows, once-round, all-rounds, unstable-total}

pub record Long (s : List Label) : Type 0 where
  pub label : Label
  pub there : label ∈ s
  pub long : 31 < size label

pub some_long→long : (s : List Label) → T (some_long s) → Long s
unfolding some_long
some_long→long [] t = elim t [ ]
some_long→long (a ∷ s) t = pick (or_cases (ltb 31 (size a)) (some_long s) t) (some_long→long s)
  where
    pick : T (ltb 31 (size a)) ⊎ T (some_long s) → (T (some_long s) → Long s) → Long (a ∷ s)
    pick (inl h) more = record { label = a; there = inl refl; long = ltb→lt 31 (size a) h }
    pick (inr h) more = let x = more h in record { label = x.label; there = inr x.there; long = x.long }

pub long→some_long : (s : List Label) (a : Label) → a ∈ s → 31 < size a → T (some_long s)
unfolding some_long
long→some_long (b ∷ s) a (inl e) h = or_left (ltb 31 (size b)) (some_long s) (lt→ltb 31 (size b) (subst (λ (x : Label). 31 < size x) e h))
long→some_long [] a x'' h = elim x'' [ ]
long→some_long (b ∷ s) a (inr m) h = or_right (ltb 31 (size b)) (some_long s) (long→some_long s a m h)

-- the three tests of one set and of those after it
pub over-cases : (s : List Label) (sets : List (List Label)) → T (some_over (s ∷ sets)) → T (some_long s) ⊎ ((1024 < length s) ⊎ T (some_over sets))
unfolding some_over
over-cases s sets t =
    elim (or_cases (some_long s || ltb 1024 (length s)) (some_over sets) t) [
      | inl h ↦ elim (or_cases (some_long s) (ltb 1024 (length s)) h) [ inl k ↦ inl k | inr k ↦ inr (inl (ltb→lt 1024 (length s) k)) ]
      | inr h ↦ inr (inr h)
    ]

pub over-one : (s : List Label) (sets : List (List Label)) → T (some_long s) ⊎ ((1024 < length s) ⊎ T (some_over sets)) → T (some_over (s ∷ sets))
unfolding some_over
over-one s sets (inl h) = or_left (some_long s || ltb 1024 (length s)) (some_over sets) (or_left (some_long s) (ltb 1024 (length s)) h)
over-one s sets (inr (inl h)) =
    or_left (some_long s || ltb 1024 (length s)) (some_over sets) (or_right (some_long s) (ltb 1024 (length s)) (lt→ltb 1024 (length s) h))
over-one s sets (inr (inr h)) = or_right (some_long s || ltb 1024 (length s)) (some_over sets) h

pub over-some : (sets : List (List Label)) → T (some_over sets) → T (over sets)
unfolding over
over-some sets t = or_left (some_over sets) (ltb 2048 (total sets)) t

pub over-all : (sets : List (List Label)) → 2048 < total sets → T (over sets)
unfolding over
over-all sets h = or_right (some_over sets) (ltb 2048 (total sets)) (lt→ltb 2048 (total sets) h)

some_over-grows : (part sets : List (List Label)) → AllOnce part → AllWithin part sets → T (some_over part) → T (some_over sets)
unfolding some_over
some_over-grows [] sets o w t = absurd t
some_over-grows (s ∷ part) [] o w t = ends (over-cases s part t) (some_over-grows part [] (λ n. o (suc n)) (λ n. w (suc n)))
  where
    ends : T (some_long s) ⊎ ((1024 < length s) ⊎ T (some_over part)) → (T (some_over part) → ⊥) → ⊥
    ends (inl h) more = let x = some_long→long s h in w 0 x.label x.there
    ends (inr (inl h)) more = let k = (once-count s [] (o 0) (w 0)).0 in omega arith
    ends (inr (inr h)) more = more h
some_over-grows (s ∷ part) (s' ∷ sets) o w t = goes (over-cases s part t) (some_over-grows part sets (λ n. o (suc n)) (λ n. w (suc n)))
  where
    goes : T (some_long s) ⊎ ((1024 < length s) ⊎ T (some_over part)) → (T (some_over part) → T (some_over sets)) → T (some_over (s' ∷ sets))
    goes (inl h) more =
        let x = some_long→long s h in
        over-one s' sets (inl (long→some_long s' x.label (w 0 x.label x.there) x.long))
    goes (inr (inl h)) more = let k = (once-count s s' (o 0) (w 0)).0 in over-one s' sets (inr (inl (omega arith)))
    goes (inr (inr h)) more = over-one s' sets (inr (inr (more h)))

pub over-grows : (part sets : List (List Label)) → AllOnce part → AllWithin part sets → T (over part) → T (over sets)
unfolding over
over-grows part sets o w t =
    elim (or_cases (some_over part) (ltb 2048 (total part)) t) [
      | inl h ↦ or_left (some_over sets) (ltb 2048 (total sets)) (some_over-grows part sets o w h)
      | inr h ↦ or_right (some_over sets) (ltb 2048 (total sets))
          (lt→ltb 2048 (total sets) (let k = (total-grows part sets o w).0 in let l = ltb→lt 2048 (total part) h in omega arith))
    ]

-- A round that passes a limit, and what passes a limit once a round is stable.
pub round-passes : (d : Description) (k : ℕ) → T (over (round_sets d k)) → PassesLimit d
round-passes d k t = record { part = round_sets d k; in_sets = λ n a m. record { round = k; there = m }; once = once-round d k; too_much = t }

pub stable-passes : (d : Description) (k : ℕ) → Stable d k → PassesLimit d → T (over (round_sets d (suc k)))
stable-passes d k e x =
    over-grows x.part (round_sets d (suc k)) x.once (λ t a m. let y = x.in_sets t a m in all-rounds d k e y.round t a y.there) x.too_much

-- Where no limit is passed the first stable round is at most 2,049.
pub rounds-bound : (d : Description) (k : ℕ) → (PassesLimit d → ⊥) → Rounds d k → k ≤ 2049
rounds-bound d zero h r = absurd (let l = r.at_least in omega arith)
rounds-bound d (suc k) h r = bound (dec_lt 2048 (total (round_sets d k)))
  where
    bound : Dec (2048 < total (round_sets d k)) → suc k ≤ 2049
    bound (yes l) = absurd (h (round-passes d k (over-all (round_sets d k) l)))
    bound (no n) = let l = unstable-total d k (λ j i e. r.smallest (suc j) (omega arith) (omega arith) e) in omega arith
