-- Sets grow: term by term with widening, round by round by themselves. And every round's sets ascend.
-- Assumes nothing.
use mathlib.Core.Path.{◌≡◌, refl, subst}
use mathlib.Core.List.{List, [], ◌∷◌, map}
use Prim.Native.Nat.{ℕ, zero, suc, ◌+◌, ◌≤◌, zero-le}
use native.Mathlib.Nat.{le_dest, add-zero, add-suc}
use native.Mathlib.Omega.{arith}
use lib.ListN.{length, get_or, get_or-eq_default, get_or-map}
use Rattle.meaning.specs.Labels.{Label}
use Rattle.meaning.specs.Sets.{at}
use Rattle.meaning.specs.Descriptions.{Description, term_count, term_at, body_at}
use Rattle.meaning.specs.Rounds.{shape, made, body_sets, next, round_sets}
use Rattle.meaning.proofs.Ascent.{Within}
use Rattle.meaning.proofs.Members.{Ascending, in-ascending, ascending-ascends}
use Rattle.meaning.proofs.Shapes.{In, Grown, alike, in-made, in-made→, made-grows}
use Rattle.meaning.proofs.Carried.{length-worked, carried}

-- Each set of one list lies within the set at the same place of another.
abbrev pub AllWithin : List (List Label) → List (List Label) → Type 0
AllWithin sets sets' = (t : ℕ) → Within (at sets t) (at sets' t)

-- Of two descriptions the second gives at least what the first gives, term by term.
pub record Wide (d d' : Description) : Type 0 where
  pub terms : (n : ℕ) → Grown (shape d (term_at d n)) (shape d' (term_at d' n))
  pub count : term_count d ≡ term_count d'
  pub bodies : d.bodies ≡ d'.bodies

pub wide-self : (d : Description) → Wide d d
wide-self d = record { terms = λ n. alike (shape d (term_at d n)); count = refl; bodies = refl }

bodies-within : (sets sets' : List (List Label)) → AllWithin sets sets' → (bs : List ℕ) → AllWithin (map (at sets) bs) (map (at sets') bs)
bodies-within sets sets' h [] e a m = absurd m
bodies-within sets sets' h (b ∷ bs) zero a m = h b a m
bodies-within sets sets' h (b ∷ bs) (suc e) a m = bodies-within sets sets' h bs e a m

pub next_grows : (d d' : Description) → Wide d d' → (sets sets' : List (List Label)) → AllWithin sets sets' → AllWithin (next d sets) (next d' sets')
unfolding next
next_grows d d' w sets sets' h t =
    rw w.count
    (carried Within (λ a m. m) d d' (body_sets d sets) (body_sets d' sets') (λ n s s' k a m.
    (in-ascending (made (body_sets d' sets') s' (shape d' (term_at d' n))) a).1
    (in-made (body_sets d' sets') s' (shape d' (term_at d' n)) a
    (made-grows (In (body_sets d sets)) (In s) (In (body_sets d' sets')) (In s')
    (rw w.bodies (bodies-within sets sets' h d'.bodies)) k (w.terms n) a
    (in-made→ (body_sets d sets) s (shape d (term_at d n)) a
    ((in-ascending (made (body_sets d sets) s (shape d (term_at d n))) a).0 m))))) (term_count d') t)

pub rounds-widen : (d d' : Description) → Wide d d' → (k : ℕ) → AllWithin (round_sets d k) (round_sets d' k)
unfolding round_sets
rounds-widen d d' w zero = λ t a m. m
rounds-widen d d' w (suc k) = next_grows d d' w (round_sets d k) (round_sets d' k) (rounds-widen d d' w k)

-- A description widens itself.
pub round-grows : (d : Description) (k : ℕ) → AllWithin (round_sets d k) (round_sets d (suc k))
unfolding round_sets
round-grows d zero = λ t a m. absurd m
round-grows d (suc k) = next_grows d d (wide-self d) (round_sets d k) (round_sets d (suc k)) (round-grows d k)

rounds-more : (d : Description) (k more : ℕ) → AllWithin (round_sets d k) (round_sets d (k + more))
rounds-more d k zero t = rw (add-zero k) (λ a m. m)
rounds-more d k (suc more) t = rw (add-suc k more) (λ a m. round-grows d (k + more) t a (rounds-more d k more t a m))

pub rounds-grow : (d : Description) (k j : ℕ) → k ≤ j → AllWithin (round_sets d k) (round_sets d j)
rounds-grow d k j h t = let x = le_dest h in subst (λ (i : ℕ). Within (at (round_sets d k) t) (at (round_sets d i) t)) x.1 (rounds-more d k x.0 t)

-- The sets of a round, and of the equations.
pub round-ascends : (d : Description) (k t : ℕ) → Ascending (at (round_sets d k) t)
unfolding round_sets next
round-ascends d zero t = tt
round-ascends d (suc k) t =
    let eqs = body_sets d (round_sets d k) in
    carried (λ s s'. Ascending s) tt d d eqs eqs (λ n s s' h. ascending-ascends (made eqs s (shape d (term_at d n)))) (term_count d) t

pub round-length : (d : Description) (k : ℕ) → length (round_sets d k) ≤ term_count d
unfolding round_sets next
round-length d zero = zero-le
round-length d (suc k) = omega (arith, length-worked d (body_sets d (round_sets d k)) (term_count d))

pub at_body : (d : Description) (sets : List (List Label)) → length sets ≤ term_count d → (e : ℕ) → at (body_sets d sets) e ≡ at sets (body_at d e)
at_body d sets h e =
    subst (λ (z : List Label). get_or (body_sets d sets) e z ≡ at sets (body_at d e)) (get_or-eq_default sets [] h)
    (get_or-map (at sets) d.bodies e (term_count d))
