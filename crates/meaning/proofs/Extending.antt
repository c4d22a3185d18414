-- Lines that are added, and lines at other numbers, leave the set of every line that was there as it was, in every round.
-- Assumes nothing.
use mathlib.Core.Path.{◌≡◌, refl, sym, ap, ap₂, ◌∙◌}
use mathlib.Core.Logic.{◌↔◌}
use mathlib.Core.Bool.{Bool, true, false, ◌&&◌, true≢false}
use mathlib.Core.List.{List, [], ◌∷◌, ◌++◌, map}
use Prim.Native.Nat.{ℕ, zero, suc, ◌<◌}
use native.Mathlib.Nat.{not-suc-le-zero, le_refl}
use native.Mathlib.Omega.{arith}
use lib.ListN.{length}
use Rattle.meaning.specs.Labels.{Label, empty, single}
use Rattle.meaning.specs.Sets.{at, ascending, spread, product}
use Rattle.meaning.specs.Descriptions.{Term, act, tau, delta, ref, sum, cond, choice, ifelse, seq, merge, lmerge, sync, wrap, Description}
use Rattle.meaning.specs.Descriptions.{names, term_count, term_at}
use Rattle.meaning.specs.Legal.{Each}
use Rattle.meaning.specs.Rounds.{sync_shape, are_multi_actions, image, of_actions, is_multi_action, shape, made, worked, next, round_sets, equation_sets, InSet}
use Rattle.meaning.specs.Regrouping.{moved, Extends, Below, Placed}
use Rattle.meaning.proofs.Actions.{sync-below, lines-agree}
use Rattle.meaning.proofs.Least.{round_is, same-least}

-- A moved line makes of moved sets what the line made.
module _ (d d' : Description) (same_names : names d ≡ names d') (place : ℕ → ℕ) (eqs sets sets' : List (List Label)) (n : ℕ)
    (h : (t : ℕ) → t < n → at sets t ≡ at sets' (place t)) (m : (t : ℕ) → t < n → is_multi_action d t ≡ is_multi_action d' (place t)) where
  moved-sync : (t u : ℕ) (b b' : Bool) → b ≡ b' → (t < n) × (u < n)
      → made eqs sets (sync_shape b t u) ≡ made eqs sets' (sync_shape b' (place t) (place u))
  moved-sync t u true true e l = ap₂ product (h t l.0) (h u l.1)
  moved-sync t u false false e l = ap₂ {C = List Label} (λ s r. s ++ r ++ product s r) (h t l.0) (h u l.1)
  moved-sync t u true false e l = absurd (true≢false e)
  moved-sync t u false true e l = absurd (true≢false (sym e))

  moved_made : (x : Term) → Below n (shape d x) → made eqs sets (shape d x) ≡ made eqs sets' (shape d' (moved place x))
  moved_made (act a) b = ap (λ (k : ℕ). single k a ∷ []) same_names
  moved_made tau b = ap (λ (k : ℕ). empty k ∷ []) same_names
  moved_made delta b = refl
  moved_made (ref e) b = refl
  moved_made (sum t) b = h t b
  moved_made (cond t) b = h t b
  moved_made (choice t u) b = ap₂ {C = List Label} ◌++◌ (h t b.0) (h u b.1)
  moved_made (ifelse t u) b = ap₂ {C = List Label} ◌++◌ (h t b.0) (h u b.1)
  moved_made (seq t u) b = ap₂ {C = List Label} ◌++◌ (h t b.0) (h u b.1)
  moved_made (merge t u) b = ap₂ {C = List Label} (λ s r. s ++ r ++ product s r) (h t b.0) (h u b.1)
  moved_made (lmerge t u) b = ap₂ {C = List Label} (λ s r. s ++ r ++ product s r) (h t b.0) (h u b.1)
  moved_made (sync t u) b =
      let l = sync-below n t u (are_multi_actions d t u) b in
      moved-sync t u (are_multi_actions d t u) (are_multi_actions d' (place t) (place u))
      (ap₂ {C = Bool} ◌&&◌ (m t l.0) (m u l.1)) l
  moved_made (wrap o t) b = ap₂ (λ (k : ℕ) (s : List Label). spread (image k o) s) same_names (h t b)

-- Equations keep their sets where their bodies do.
bodies-moved : (place : ℕ → ℕ) (sets sets' : List (List Label)) (count : ℕ) → ((t : ℕ) → t < count → at sets t ≡ at sets' (place t))
    → (bs : List ℕ) → Each (λ b. b < count) bs → map (at sets) bs ≡ map (at sets') (map place bs)
bodies-moved place sets sets' count h [] l = refl
bodies-moved place sets sets' count h (b ∷ bs) l = ap₂ {C = List (List Label)} ◌∷◌ (h b l.0) (bodies-moved place sets sets' count h bs l.1)

module _ (d d' : Description) (placed : Placed d) (placed' : Placed d') (x : Extends d d') where
  -- A moved line is built of what it was.
  moved-of : (t : ℕ) → ((i : ℕ) → i < t → is_multi_action d i ≡ is_multi_action d' (x.place i)) → (y : Term) → Below t (shape d y)
      → of_actions (is_multi_action d) y ≡ of_actions (is_multi_action d') (moved x.place y)
  moved-of t h (act a) b = refl
  moved-of t h tau b = refl
  moved-of t h delta b = refl
  moved-of t h (ref e) b = refl
  moved-of t h (sum u) b = refl
  moved-of t h (cond u) b = refl
  moved-of t h (choice u v) b = refl
  moved-of t h (ifelse u v) b = refl
  moved-of t h (seq u v) b = refl
  moved-of t h (merge u v) b = refl
  moved-of t h (lmerge u v) b = refl
  moved-of t h (sync u v) b =
      let l = sync-below t u v (are_multi_actions d u v) b in ap₂ {C = Bool} ◌&&◌ (h u l.0) (h v l.1)
  moved-of t h (wrap o u) b = refl

  multi-moved : (t : ℕ) → t < term_count d → is_multi_action d t ≡ is_multi_action d' (x.place t)
  multi-moved =
      lines-agree d d' placed.operands placed'.operands x.place (λ t. t < term_count d) (λ i t l h. omega arith)
      (λ t h below. moved-of t below (term_at d t) (placed.operands t) ∙ sym (ap (of_actions (is_multi_action d')) (x.lines t h)))

  -- by the numbers below m, as a line's operands come before it
  worked-moved : (eqs : List (List Label)) (m t : ℕ) → t < m → t < term_count d
      → at (worked d eqs (term_count d)) t ≡ at (worked d' eqs (term_count d')) (x.place t)
  worked-moved eqs zero t l in_range = absurd (not-suc-le-zero l)
  worked-moved eqs (suc m) t l in_range =
      let sets = worked d eqs (term_count d) in
      let sets' = worked d' eqs (term_count d') in
      let operands : (i : ℕ) → i < t → at sets i ≡ at sets' (x.place i) = λ i k. worked-moved eqs m i (omega arith) (omega arith) in
      round_is d placed.operands eqs t
      ∙ ap ascending (moved_made d d' (ap length x.words) x.place eqs sets sets' t operands
      (λ i k. multi-moved i (omega arith)) (term_at d t) (placed.operands t))
      ∙ sym (round_is d' placed'.operands eqs (x.place t) ∙ ap (λ (y : Term). ascending (made eqs sets' (shape d' y))) (x.lines t in_range))

  equations-moved : (k : ℕ) → ((t : ℕ) → t < term_count d → at (round_sets d k) t ≡ at (round_sets d' k) (x.place t)) → equation_sets d k ≡ equation_sets d' k
  equations-moved k h =
      bodies-moved x.place (round_sets d k) (round_sets d' k) (term_count d) h d.bodies placed.bodies
      ∙ ap (map (at (round_sets d' k))) (sym x.bodies)

  pub extended-sets : (k t : ℕ) → t < term_count d → at (round_sets d k) t ≡ at (round_sets d' k) (x.place t)
  unfolding round_sets next
  extended-sets zero t in_range = refl
  extended-sets (suc k) t in_range =
      worked-moved (equation_sets d k) (suc t) t (le_refl (suc t)) in_range
      ∙ ap (λ (eqs : List (List Label)). at (worked d' eqs (term_count d')) (x.place t)) (equations-moved k (extended-sets k))

  pub extended-least : (t : ℕ) → t < term_count d → (a : Label) → InSet d t a ↔ InSet d' (x.place t) a
  extended-least t in_range = same-least d d' t (x.place t) (λ k. extended-sets k t in_range)

  pub extended-equations : (k : ℕ) → equation_sets d k ≡ equation_sets d' k
  extended-equations k = equations-moved k (extended-sets k)
