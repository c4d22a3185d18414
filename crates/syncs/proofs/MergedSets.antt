-- A description in which every sync of whole processes is a merge is legal where the first is, and has its sets in every round, its
-- answer and its lists; and every sync in it is one of multi-actions.
-- Assumes nothing.
use mathlib.Core.Path.{◌≡◌, refl, sym, ap, ap₂, subst, ◌∙◌}
use mathlib.Core.Bool.{Bool, true, false, ◌&&◌}
use mathlib.Core.List.{List, [], ◌∷◌, map}
use Prim.Native.Nat.{ℕ, suc, ◌*◌, ◌<◌}
use lib.ListN.{length, take, drop, length-map, get_or-map}
use Rattle.meaning.specs.Labels.{Label}
use Rattle.meaning.specs.Descriptions.{Term, act, tau, delta, ref, sum, cond, choice, ifelse, seq, merge, lmerge, sync, wrap, Order, Description}
use Rattle.meaning.specs.Descriptions.{term_count, term_at}
use Rattle.meaning.specs.Legal.{LegalTwo, LegalTerm, LegalTerms, Legal}
use Rattle.meaning.specs.Rounds.{of_actions, is_multi_action, are_multi_actions, sync_shape, shape, next, round_sets}
use Rattle.meaning.specs.Answers.{answer}
use Rattle.meaning.proofs.SyncOrOther.{NoSync, SyncOrOther, is-sync, other, sync-or-other, built-other}
use Rattle.meaning.proofs.Shapes.{shape-other}
use Rattle.meaning.proofs.Actions.{multi-is, lines-agree}
use Rattle.meaning.proofs.Least.{term-legal, legal-operands}
use Rattle.meaning.proofs.ByShapes.{same-shapes, same-rounds, same_answer}
use Rattle.table.specs.Encoded.{term_words}
use Rattle.table.specs.Holding.{HoldsLists}
use Rattle.syncs.specs.Merges.{sync_or, as_merge, with_merges, SyncsJoin}

-- Whether a term is an act, a tau, a delta or a sync, whatever its operands are.
abbrev pub multi_term : Term → Bool
multi_term = of_actions (λ t. true)

by_kind : (t u : ℕ) (b : Bool) → b ≡ multi_term (sync_or b t u)
by_kind t u true = refl
by_kind t u false = refl

pub merged-at : (d : Description) (n : ℕ) → term_at (with_merges d) n ≡ as_merge d (term_at d n)
merged-at d n = get_or-map (as_merge d) d.terms n delta

pub merged-count : (d : Description) → term_count (with_merges d) ≡ term_count d
merged-count d = length-map d.terms (as_merge d)

-- Only syncs change.
as-other : (d : Description) (x : Term) → NoSync x → as_merge d x ≡ x
as-other d (act a) o = refl
as-other d tau o = refl
as-other d delta o = refl
as-other d (ref e) o = refl
as-other d (sum t) o = refl
as-other d (cond t) o = refl
as-other d (choice t u) o = refl
as-other d (ifelse t u) o = refl
as-other d (seq t u) o = refl
as-other d (merge t u) o = refl
as-other d (lmerge t u) o = refl
as-other d (sync t u) o = absurd o
as-other d (wrap p t) o = refl

-- It is legal.
module _ (d : Description) where
  two-legal : (n t u : ℕ) (b : Bool) → LegalTwo n t u → LegalTerm (with_merges d) n (sync_or b t u)
  two-legal n t u true l = l
  two-legal n t u false l = l

  line-legal : (n : ℕ) (x : Term) → LegalTerm d n x → LegalTerm (with_merges d) n (as_merge d x)
  line-legal n (act a) l = l
  line-legal n tau l = l
  line-legal n delta l = l
  line-legal n (ref e) l = l
  line-legal n (sum t) l = l
  line-legal n (cond t) l = l
  line-legal n (choice t u) l = l
  line-legal n (ifelse t u) l = l
  line-legal n (seq t u) l = l
  line-legal n (merge t u) l = l
  line-legal n (lmerge t u) l = l
  line-legal n (sync t u) l = two-legal n t u (are_multi_actions d t u) l
  line-legal n (wrap o t) l = l

  lines-legal : (n : ℕ) (ts : List Term) → LegalTerms d n ts → LegalTerms (with_merges d) n (map (as_merge d) ts)
  lines-legal n [] l = tt
  lines-legal n (t ∷ ts) l = (line-legal n t l.0, lines-legal (suc n) ts l.1)

  pub merged-legal : (o : Order) → Legal d o → Legal (with_merges d) o
  merged-legal o l =
      record {
        name_count = l.name_count;
        equation_count = l.equation_count;
        terms_count = rw (merged-count d) l.terms_count;
        terms = lines-legal 0 d.terms l.terms;
        bodies = rw (merged-count d) l.bodies;
        root = rw (merged-count d) l.root;
        order = l.order;
      }

-- What each term is built of stays.
module _ (d : Description) (o : Order) (legal : Legal d o) where
  abbrev d' : Description
  d' = with_merges d

  sync-built : (u v : ℕ) (b : Bool) → b ≡ are_multi_actions d' u v → b ≡ of_actions (is_multi_action d') (sync_or b u v)
  sync-built u v true e = e
  sync-built u v false e = refl

  line-built : (t : ℕ) {x : Term} → SyncOrOther x → LegalTerm d t x → ((i : ℕ) → i < t → is_multi_action d i ≡ is_multi_action d' i)
      → of_actions (is_multi_action d) x ≡ of_actions (is_multi_action d') (as_merge d x)
  line-built t (is-sync u v) l h = sync-built u v (are_multi_actions d u v) (ap₂ {C = Bool} ◌&&◌ (h u l.0) (h v l.1))
  line-built t (other x k) l h =
      built-other (is_multi_action d) (is_multi_action d') x k ∙ sym (ap (of_actions (is_multi_action d')) (as-other d x k))

  multi-merged : (t : ℕ) → is_multi_action d t ≡ is_multi_action d' t
  multi-merged t =
      lines-agree d d' (legal-operands d o legal) (legal-operands d' o (merged-legal d o legal)) (λ i. i) (λ i. Unit {0}) (λ i k l h. tt)
      (λ k h below. line-built k (sync-or-other (term_at d k)) (term-legal d o legal k) below ∙ sym (ap (of_actions (is_multi_action d')) (merged-at d k))) t tt

  are-merged : (t u : ℕ) → are_multi_actions d t u ≡ are_multi_actions d' t u
  are-merged t u = ap₂ {C = Bool} ◌&&◌ (multi-merged t) (multi-merged u)

  -- A term is a multi-action just where it is an act, a tau, a delta or a sync by now.
  kind-merged : {x : Term} → SyncOrOther x → of_actions (is_multi_action d) x ≡ multi_term (as_merge d x)
  kind-merged (is-sync t u) = by_kind t u (are_multi_actions d t u)
  kind-merged (other x k) = built-other (is_multi_action d) (λ t. true) x k ∙ sym (ap multi_term (as-other d x k))

  pub multi-by-kind : (t : ℕ) → is_multi_action d t ≡ multi_term (term_at d' t)
  multi-by-kind t =
      multi-is d (legal-operands d o legal) t ∙ kind-merged (sync-or-other (term_at d t)) ∙ sym (ap multi_term (merged-at d t))

  -- Every sync that is left is one of multi-actions.
  sync-left : (t u : ℕ) (b : Bool) → are_multi_actions d' t u ≡ b → as_merge d' (sync_or b t u) ≡ sync_or b t u
  sync-left t u true e = ap (λ (b : Bool). sync_or b t u) e
  sync-left t u false e = refl

  line-left : {x : Term} → SyncOrOther x → as_merge d' (as_merge d x) ≡ as_merge d x
  line-left (is-sync t u) = sync-left t u (are_multi_actions d t u) (sym (are-merged t u))
  line-left (other x k) = ap (as_merge d') (as-other d x k) ∙ as-other d' x k ∙ sym (as-other d x k)

  pub merged-join : SyncsJoin d'
  merged-join n = subst (λ (x : Term). as_merge d' x ≡ x) (sym (merged-at d n)) (line-left (sync-or-other (term_at d n)))

  -- The shapes stay, and so the sets of every round and the answer.
  sync-shaped : (t u : ℕ) (b : Bool) → are_multi_actions d' t u ≡ b → shape d' (sync_or b t u) ≡ sync_shape b t u
  sync-shaped t u true e = ap (λ (b : Bool). sync_shape b t u) e
  sync-shaped t u false e = refl

  line-shaped : {x : Term} → SyncOrOther x → shape d' (as_merge d x) ≡ shape d x
  line-shaped (is-sync t u) = sync-shaped t u (are_multi_actions d t u) (sym (are-merged t u))
  line-shaped (other x k) = ap (shape d') (as-other d x k) ∙ shape-other d' d refl x k

  merged-next : (sets : List (List Label)) → next d' sets ≡ next d sets
  merged-next =
      same-shapes d' d refl (merged-count d) (λ n. ap (shape d') (merged-at d n) ∙ line-shaped (sync-or-other (term_at d n)))

  pub merged-rounds : (k : ℕ) → round_sets d' k ≡ round_sets d k
  merged-rounds = same-rounds d' d refl refl merged-next

  pub merged-answer : (p : Order) → answer d' p ≡ answer d p
  merged-answer = same_answer d' d refl refl merged-next

-- No term with a list changes, so that the lists stay.
two-words : (t u : ℕ) (b : Bool) → term_words (sync_or b t u) ≡ []
two-words t u true = refl
two-words t u false = refl

line-words : (d : Description) {x : Term} → SyncOrOther x → term_words (as_merge d x) ≡ term_words x
line-words d (is-sync t u) = two-words t u (are_multi_actions d t u)
line-words d (other x o) = ap term_words (as-other d x o)

pub merged-lists : (d : Description) (lists : List ℕ) → HoldsLists d lists → HoldsLists (with_merges d) lists
merged-lists d lists held n h =
    let same : term_words (term_at (with_merges d) n) ≡ term_words (term_at d n) = ap term_words (merged-at d n) ∙ line-words d (sync-or-other (term_at d n)) in
    let inside : n < term_count d = rw (merged-count d) at h in
    subst (λ (ws : List ℕ). take (length ws) (drop (64 * n) lists) ≡ ws) (sym same) (held n inside)
