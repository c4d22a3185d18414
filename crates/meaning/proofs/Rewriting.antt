-- A line regrouped in its place leaves every set of every round, and so the answer, as it was.
-- Assumes nothing.
use mathlib.Core.Path.{◌≡◌, refl, sym, ap, ap₂, subst, ◌∙◌}
use mathlib.Core.Logic.{◌↔◌}
use mathlib.Core.Bool.{Bool, true, false, ◌&&◌, true≢false}
use mathlib.Core.List.{List, [], ◌∷◌, ◌++◌}
use Prim.Native.Nat.{ℕ, zero, suc, ◌<◌}
use native.Mathlib.Decide.{ℕ_discrete}
use lib.ListN.{length-set}
use lib.Seq.{get_or-set_same, get_or-set_other}
use Rattle.meaning.specs.Labels.{Label}
use Rattle.meaning.specs.Sets.{at, ascending}
use Rattle.meaning.specs.Descriptions.{Operator, Term, delta, choice, ifelse, seq, merge, lmerge, sync, wrap, Order}
use Rattle.meaning.specs.Descriptions.{Description, names, term_count, term_at}
use Rattle.meaning.specs.Rounds.{sync_shape, are_multi_actions, of_actions, actions_only, is_multi_action, shape, made, worked, body_sets, next, round_sets, InSet}
use Rattle.meaning.specs.Answers.{answer}
use Rattle.meaning.specs.Laws.{wrapped, chosen, merged}
use Rattle.meaning.specs.Regrouping.{Spreads, over-choice, over-ifelse, over-seq, over-merge, over-lmerge, over-sync}
use Rattle.meaning.specs.Regrouping.{Regroups, in_one, spread-out, rewritten, Below, Placed}
use Rattle.meaning.proofs.Shapes.{shape_same}
use Rattle.meaning.proofs.Actions.{sync-below, below-same, lines-agree}
use Rattle.meaning.proofs.Least.{worked-is, same-least}
use Rattle.meaning.proofs.Rows.{one-for-two}
use Rattle.meaning.proofs.Spreading.{spread-choice, spread-merge}
use Rattle.meaning.proofs.ByShapes.{same-rounds, same_answer}

-- An operator makes no multi-action.
no-multi : (d : Description) (n : ℕ) (o : Operator) (t : ℕ) → term_at d n ≡ wrap o t → is_multi_action d n ≡ false
unfolding actions_only
no-multi d n o t e = ap (of_actions (actions_only n d)) e

module _ (d : Description) (placed : Placed d) (eqs : List (List Label)) (n : ℕ) where
  -- the sets of the lines before line n, and what each is by its line
  abbrev sets : List (List Label)
  sets = worked d eqs n

  set-of : (t : ℕ) (x : Term) → t < n → term_at d t ≡ x → at sets t ≡ ascending (made eqs sets (shape d x))
  set-of t x h e = worked-is d placed.operands eqs n t h ∙ ap (λ (y : Term). ascending (made eqs sets (shape d y))) e

  -- an operator that spreads over the join of two sets, and lines that hold the operator over each
  spread-by : {o : Operator} (join : List Label → List Label → List Label)
      → ((s r : List Label) → wrapped (names d) o (join s r) ≡ join (wrapped (names d) o s) (wrapped (names d) o r))
      → (m t u t' u' : ℕ) → at sets m ≡ join (at sets t) (at sets u) → (t' < n) × (u' < n) → term_at d t' ≡ wrap o t → term_at d u' ≡ wrap o u
      → wrapped (names d) o (at sets m) ≡ join (at sets t') (at sets u')
  spread-by {o} join law m t u t' u' e b l r =
      ap (wrapped (names d) o) e
      ∙ law (at sets t) (at sets u)
      ∙ sym (ap₂ join (set-of t' (wrap o t) b.0 l) (set-of u' (wrap o u) b.1 r))

  -- A sync whose operands are not both multi-actions is joined like a merge. What an operator is around is no multi-action.
  sync-joins : (t u : ℕ) (b : Bool) → b ≡ false → ascending (made eqs sets (sync_shape b t u)) ≡ merged (at sets t) (at sets u)
  sync-joins t u true e = absurd (true≢false e)
  sync-joins t u false e = refl

  spread_line : {o : Operator} {two : ℕ → ℕ → Term} (m t u t' u' : ℕ) → Spreads d o t u two → m < n → Below n (shape d (two t' u')) → term_at d m ≡ two t u
      → term_at d t' ≡ wrap o t → term_at d u' ≡ wrap o u → wrapped (names d) o (at sets m) ≡ ascending (made eqs sets (shape d (two t' u')))
  spread_line {o} m t u t' u' over-choice h b e = spread-by chosen (spread-choice (names d) o) m t u t' u' (set-of m (choice t u) h e) b
  spread_line {o} m t u t' u' over-ifelse h b e = spread-by chosen (spread-choice (names d) o) m t u t' u' (set-of m (ifelse t u) h e) b
  spread_line {o} m t u t' u' over-seq h b e = spread-by chosen (spread-choice (names d) o) m t u t' u' (set-of m (seq t u) h e) b
  spread_line m t u t' u' (over-merge alone) h b e = spread-by merged (spread-merge (names d) alone) m t u t' u' (set-of m (merge t u) h e) b
  spread_line m t u t' u' (over-lmerge alone) h b e = spread-by merged (spread-merge (names d) alone) m t u t' u' (set-of m (lmerge t u) h e) b
  spread_line {o} m t u t' u' (over-sync alone whole) h b e =
      λ l r. spread-by merged (spread-merge (names d) alone) m t u t' u'
      (set-of m (sync t u) h e ∙ sync-joins t u (are_multi_actions d t u) whole)
      (sync-below n t' u' (are_multi_actions d t' u') b) l r
      ∙ sym (sync-joins t' u' (are_multi_actions d t' u') (ap (λ (c : Bool). c && is_multi_action d u') (no-multi d t' o t l)))

  -- Line n has the same set in either form.
  regrouped-line : {x y : Term} → Regroups d x y → Below n (shape d x) → Below n (shape d y)
      → ascending (made eqs sets (shape d x)) ≡ ascending (made eqs sets (shape d y))
  regrouped-line (in_one {o} {p} {q} {t} {u} two e) h b =
      ap (wrapped (names d) o) (set-of t (wrap p u) h e) ∙ one-for-two (names d) two (at sets u)
  regrouped-line (spread-out {m = m} {t} {u} {t'} {u'} s e l r) h b = spread_line m t u t' u' s h b e l r

module _ (d : Description) (n : ℕ) (x : Term) (placed : Placed d) (placed' : Placed (rewritten d n x)) (in_range : n < term_count d)
    (r : Regroups d (term_at d n) x) where
  abbrev d' : Description
  d' = rewritten d n x

  -- Neither form of the line is a multi-action, so that all others are built of what they were.
  neither-form : {y z : Term} → Regroups d y z → of_actions (is_multi_action d) y ≡ of_actions (is_multi_action d) z
  neither-form (in_one two e) = refl
  neither-form (spread-out over-choice e l q) = refl
  neither-form (spread-out over-ifelse e l q) = refl
  neither-form (spread-out over-seq e l q) = refl
  neither-form (spread-out (over-merge alone) e l q) = refl
  neither-form (spread-out (over-lmerge alone) e l q) = refl
  neither-form (spread-out {o = o} {t = t} {t' = t'} {u' = u'} (over-sync alone whole) e l q) =
      sym (ap (λ (c : Bool). c && is_multi_action d u') (no-multi d t' o t l))

  built_of : (k : ℕ) → Dec (k ≡ n) → of_actions (is_multi_action d) (term_at d k) ≡ of_actions (is_multi_action d) (term_at d' k)
  built_of k (yes e) = rw (e, get_or-set_same d.terms n x delta in_range) (neither-form r)
  built_of k (no h) = sym (ap (of_actions (is_multi_action d)) (get_or-set_other d.terms n k x delta h))

  multi-same : (t : ℕ) → is_multi_action d t ≡ is_multi_action d' t
  multi-same t =
      lines-agree d d' placed.operands placed'.operands (λ i. i) (λ i. Unit {0}) (λ i k l h. tt)
      (λ k h below. built_of k (ℕ_discrete k n) ∙ below-same d' k (is_multi_action d) (is_multi_action d') below (term_at d' k) (placed'.operands k)) t tt

  same_shape : (t : Term) → shape d' t ≡ shape d t
  same_shape t = shape_same d' d refl (λ i. sym (multi-same i)) t

  line-below : Below n (shape d x)
  line-below =
      subst (Below n) (same_shape x)
      (subst (λ (t : Term). Below n (shape d' t)) (get_or-set_same d.terms n x delta in_range) (placed'.operands n))

  same_line : (eqs : List (List Label)) (k : ℕ) → Dec (k ≡ n)
      → ascending (made eqs (worked d eqs k) (shape d (term_at d' k))) ≡ ascending (made eqs (worked d eqs k) (shape d (term_at d k)))
  same_line eqs k (yes e) =
      rw (e, get_or-set_same d.terms n x delta in_range) (sym (regrouped-line d placed eqs n r (placed.operands n) line-below))
  same_line eqs k (no h) =
      ap (λ (t : Term). ascending (made eqs (worked d eqs k) (shape d t))) (get_or-set_other d.terms n k x delta h)

  worked-rewritten : (eqs : List (List Label)) (k : ℕ) → worked d' eqs k ≡ worked d eqs k
  unfolding worked
  worked-rewritten eqs zero = refl
  worked-rewritten eqs (suc k) =
      rw (worked-rewritten eqs k, same_shape (term_at d' k))
      (ap (λ (s : List Label). worked d eqs k ++ (s ∷ [])) (same_line eqs k (ℕ_discrete k n)))

  next-rewritten : (sets : List (List Label)) → next d' sets ≡ next d sets
  unfolding next
  next-rewritten sets = rw (length-set d.terms n x) (worked-rewritten (body_sets d sets) (term_count d))

  pub rewritten-sets : (k : ℕ) → round_sets d' k ≡ round_sets d k
  rewritten-sets = same-rounds d' d refl refl next-rewritten

  pub rewritten-least : (t : ℕ) (a : Label) → InSet d' t a ↔ InSet d t a
  rewritten-least t = same-least d' d t t (λ k. ap (λ (sets : List (List Label)). at sets t) (rewritten-sets k))

  pub rewritten-answer : (o : Order) → answer d' o ≡ answer d o
  rewritten-answer = same_answer d' d refl refl next-rewritten
