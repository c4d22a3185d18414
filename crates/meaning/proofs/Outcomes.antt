-- What one round settles of the answer, for code that works rounds out one after the other: a limit passed, also by the first
-- terms alone; a stable round.
-- Assumes nothing.
use mathlib.Core.Path.{◌≡◌, sym, subst}
use mathlib.Core.Logic.{inl, inr}
use mathlib.Core.List.{List, [], ◌∷◌, ◌++◌}
use Prim.Native.Nat.{ℕ, zero, suc, ◌+◌, ◌≤◌, ◌<◌}
use native.Mathlib.Nat.{le_dest, add-zero, add-suc, zero-add}
use native.Mathlib.Omega.{arith}
use native.Mathlib.Decide.{dec_lt}
use lib.Dec.{T, ltb, ltb→lt}
use Rattle.meaning.specs.Labels.{Label}
use Rattle.meaning.specs.Sets.{at, ascending}
use Rattle.meaning.specs.Descriptions.{Order, Description, term_count, term_at}
use Rattle.meaning.specs.Rounds.{shape, made, worked, body_sets, next, round_sets}
use Rattle.meaning.specs.Limits.{total, some_over, over}
use Rattle.meaning.specs.Answers.{too_large, listed, cut, answer}
use Rattle.meaning.proofs.Tests.{or_cases}
use Rattle.meaning.proofs.Stability.{Stable, unstable-total}
use Rattle.meaning.proofs.Limits.{over-cases, over-one, over-some, over-all, round-passes}
use Rattle.meaning.proofs.Answers.{stable→lists, answer-only}

-- A round that passes a limit, and a stable one that passes none.
pub passed-answer : (d : Description) (o : Order) (k : ℕ) → T (over (round_sets d k)) → answer d o ≡ too_large
passed-answer d o k t = sym (answer-only d o too_large (round-passes d k t))

pub stable-answer : (d : Description) (o : Order) (k : ℕ) → ((j : ℕ) → j < k → Stable d j → ⊥) → Stable d k → (T (over (round_sets d (suc k))) → ⊥)
    → answer d o ≡ listed (suc k) (cut o (at (round_sets d (suc k)) d.root))
stable-answer d o k earlier e fits =
    sym (answer-only d o (listed (suc k) (cut o (at (round_sets d (suc k)) d.root))) (stable→lists d o k earlier e fits))

-- Where no round so far was stable and the last passes no limit, there have been at most 2,048.
pub rounds-so-far : (d : Description) (k : ℕ) → ((j : ℕ) → j < k → Stable d j → ⊥) → (T (over (round_sets d k)) → ⊥) → k ≤ 2048
rounds-so-far d k earlier fits = bound (dec_lt 2048 (total (round_sets d k)))
  where
    bound : Dec (2048 < total (round_sets d k)) → k ≤ 2048
    bound (yes l) = absurd (fits (over-all (round_sets d k) l))
    bound (no n) = let l = unstable-total d k earlier in omega arith

-- What passes a limit does so with more sets behind it.
total-append : (sets more : List (List Label)) → total (sets ++ more) ≡ total sets + total more
unfolding total
total-append [] more = sym (zero-add (total more))
total-append (s ∷ sets) more = let ih = total-append sets more in omega arith

some_over-append : (sets more : List (List Label)) → T (some_over sets) → T (some_over (sets ++ more))
unfolding some_over
some_over-append (s ∷ sets) more t =
    elim (over-cases s sets t) [
      | inl h ↦ over-one s (sets ++ more) (inl h)
      | inr x ↦ elim x [ inl h ↦ over-one s (sets ++ more) (inr (inl h)) | inr h ↦ over-one s (sets ++ more) (inr (inr (some_over-append sets more h))) ]
    ]
some_over-append [] more t = absurd t

pub over-append : (sets more : List (List Label)) → T (over sets) → T (over (sets ++ more))
unfolding over
over-append sets more t =
    elim (or_cases (some_over sets) (ltb 2048 (total sets)) t) [
      | inl h ↦ over-some (sets ++ more) (some_over-append sets more h)
      | inr h ↦ over-all (sets ++ more) (let l = ltb→lt 2048 (total sets) h in omega (arith, total-append sets more))
    ]

worked-more : (d : Description) (eqs : List (List Label)) (n more : ℕ) → T (over (worked d eqs n)) → T (over (worked d eqs (n + more)))
unfolding worked
worked-more d eqs n zero t = rw (add-zero n) t
worked-more d eqs n (suc more) t =
    let sets = worked d eqs (n + more) in
    rw (add-suc n more) (over-append sets (ascending (made eqs sets (shape d (term_at d (n + more)))) ∷ []) (worked-more d eqs n more t))

pub worked-over : (d : Description) (k n : ℕ) → n ≤ term_count d → T (over (worked d (body_sets d (round_sets d k)) n)) → T (over (round_sets d (suc k)))
unfolding round_sets next
worked-over d k n h t =
    let x = le_dest h in
    subst (λ (m : ℕ). T (over (worked d (body_sets d (round_sets d k)) m))) x.1 (worked-more d (body_sets d (round_sets d k)) n x.0 t)
