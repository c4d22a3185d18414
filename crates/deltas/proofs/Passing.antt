-- Sets that pass a limit, or none, where all sets together may have so many labels.
-- Assumes nothing.
use mathlib.Core.Path.{◌≡◌, refl}
use mathlib.Core.Logic.{◌⊎◌, inl, inr}
use mathlib.Core.List.{List, [], ◌∷◌}
use Prim.Native.Nat.{ℕ, zero, suc, ◌≤◌, ◌<◌, min}
use native.Mathlib.Decide.{dec_lt}
use native.Mathlib.Omega.{arith}
use lib.Dec.{T, ltb, ltb→lt, lt→ltb}
use lib.ListN.{length}
use Rattle.meaning.specs.Labels.{Label, size}
use Rattle.meaning.specs.Sets.{◌∈◌, at, ascending}
use Rattle.meaning.specs.Descriptions.{Description, names}
use Rattle.meaning.specs.Rounds.{round_sets}
use Rattle.meaning.specs.Limits.{total, some_long, some_over, over}
use Rattle.meaning.proofs.Tests.{or_cases, or_left, or_right}
use Rattle.meaning.proofs.Order.{◌≺◌, ≺-irrefl, ≺-trans}
use Rattle.meaning.proofs.Ascent.{Within, sorted-once, once-count}
use Rattle.meaning.proofs.Members.{in-ascending, ascending-ascends}
use Rattle.meaning.proofs.Growth.{AllWithin, round-grows}
use Rattle.meaning.proofs.Stability.{AllOnce, total-grows, once-round}
use Rattle.meaning.proofs.Limits.{some_long→long, long→some_long, over-cases, over-one}
use Rattle.meaning.proofs.Lengths.{Full, round-full}
use Rattle.sets.proofs.Refinement.{AllPack, TooMuch}
use Rattle.deltas.specs.Deltas.{over_in}

pub over-in : (sets : List (List Label)) → over_in 2048 sets ≡ over sets
unfolding over
over-in sets = refl

-- One of the sets passes a limit by itself.
abbrev TooBig : List Label → Type 0
TooBig s = T (some_long s) ⊎ (1024 < length s)

one-over : (sets : List (List Label)) (t : ℕ) → TooBig (at sets t) → T (some_over sets)
unfolding some_long
one-over [] t (inl h) = absurd h
one-over [] t (inr h) = absurd (omega arith)
one-over (s ∷ sets) zero (inl h) = over-one s sets (inl h)
one-over (s ∷ sets) zero (inr h) = over-one s sets (inr (inl h))
one-over (s ∷ sets) (suc t) h = over-one s sets (inr (inr (one-over sets t h)))

record Culprit (sets : List (List Label)) : Type 0 where
  term : ℕ
  big : TooBig (at sets term)

culprit : (sets : List (List Label)) → T (some_over sets) → Culprit sets
unfolding some_over
culprit [] h = absurd h
culprit (s ∷ sets) h = found (over-cases s sets h) (culprit sets)
  where
    found : T (some_long s) ⊎ ((1024 < length s) ⊎ T (some_over sets)) → (T (some_over sets) → Culprit sets) → Culprit (s ∷ sets)
    found (inl l) more = record { term = 0; big = inl l }
    found (inr (inl l)) more = record { term = 0; big = inr l }
    found (inr (inr l)) more = let x = more l in record { term = suc x.term; big = x.big }

total-at : (sets : List (List Label)) (t : ℕ) → length (at sets t) ≤ total sets
unfolding total
total-at [] t = omega arith
total-at (s ∷ sets) zero = omega arith
total-at (s ∷ sets) (suc t) = let ih = total-at sets t in omega arith

module _ (most : ℕ) where
  big-passes : (sets : List (List Label)) (t : ℕ) → TooBig (at sets t) → T (over_in most sets)
  big-passes sets t h = or_left (some_over sets) (ltb most (total sets)) (one-over sets t h)

  pub long-passes : (sets : List (List Label)) (t : ℕ) (a : Label) → a ∈ at sets t → 31 < size a → T (over_in most sets)
  long-passes sets t a m h = big-passes sets t (inl (long→some_long (at sets t) a m h))

  pub large-passes : (sets : List (List Label)) (t : ℕ) → 1024 < length (at sets t) → T (over_in most sets)
  large-passes sets t h = big-passes sets t (inr h)

  pub total-passes : (sets : List (List Label)) → most < total sets → T (over_in most sets)
  total-passes sets h = or_right (some_over sets) (ltb most (total sets)) (lt→ltb most (total sets) h)

  -- Labels of one of the sets that find no room, or of which one is too long.
  pub within-passes : (sets : List (List Label)) (t room : ℕ) (R : List Label) → Within R (at sets t) → min 1024 most ≤ room → TooMuch room R
      → T (over_in most sets)
  within-passes sets t room R w h (inr x) = long-passes sets t x.label (w x.label x.there) x.long
  within-passes sets t room R w h (inl k) =
      let n = (once-count (ascending R) (at sets t) (sorted-once ◌≺◌ ≺-irrefl ≺-trans (ascending R) (ascending-ascends R))
      (λ a m. w a ((in-ascending R a).0 m))).0 in
      elim (dec_lt 1024 (length (at sets t))) [
        | yes l ↦ large-passes sets t l
        | no l ↦ total-passes sets (omega (arith, total-at sets t))
      ]

  -- What passes no limit.
  module _ (sets : List (List Label)) (few : T (over_in most sets) → ⊥) where
    pub few-labels : (t : ℕ) → length (at sets t) ≤ 1024
    few-labels t = elim (dec_lt 1024 (length (at sets t))) [ yes l ↦ absurd (few (large-passes sets t l)) | no l ↦ omega arith ]

    pub few-together : total sets ≤ most
    few-together = elim (dec_lt most (total sets)) [ yes l ↦ absurd (few (total-passes sets l)) | no l ↦ omega arith ]

    pub few-packs : (n t : ℕ) → Full n (at sets t) → AllPack n (at sets t)
    few-packs n t full a m = record {
      wide = full a m;
      few = elim (dec_lt 31 (size a)) [ yes l ↦ absurd (few (long-passes sets t a m l)) | no l ↦ omega arith ];
    }

  -- Sets that grow pass a limit that they passed.
  pub over-more : (sets sets' : List (List Label)) → AllOnce sets → AllWithin sets sets' → T (over_in most sets) → T (over_in most sets')
  over-more sets sets' once w h = elim (or_cases (some_over sets) (ltb most (total sets)) h) [
    | inl l ↦ let x = culprit sets l in big-passes sets' x.term (bigger x.term x.big)
    | inr l ↦
        total-passes sets' (let more = (total-grows sets sets' once w).0 in let k = ltb→lt most (total sets) l in omega arith)
  ]
    where
      bigger : (t : ℕ) → TooBig (at sets t) → TooBig (at sets' t)
      bigger t (inl l) = let x = some_long→long (at sets t) l in inl (long→some_long (at sets' t) x.label (w t x.label x.there) x.long)
      bigger t (inr l) = let n = (once-count (at sets t) (at sets' t) (once t) (w t)).0 in inr (omega arith)

  module _ (d : Description) (k : ℕ) where
    pub over-next : T (over_in most (round_sets d k)) → T (over_in most (round_sets d (suc k)))
    over-next h = over-more (round_sets d k) (round_sets d (suc k)) (once-round d k) (round-grows d k) h

    pub few-before : (T (over_in most (round_sets d (suc k))) → ⊥) → T (over_in most (round_sets d k)) → ⊥
    few-before few h = few (over-next h)

    pub round-packs : (T (over_in most (round_sets d k)) → ⊥) → (t : ℕ) → AllPack (names d) (at (round_sets d k) t)
    round-packs few t = few-packs (round_sets d k) few (names d) t (round-full d k t)
