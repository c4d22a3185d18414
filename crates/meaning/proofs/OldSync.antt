-- Old answers keep. While an operand of sync had to be an act, a tau or such a sync, the set of a sync was the product, whatever its
-- operands. A description that was well-formed then has the sets, the rounds and the answer that it had.
-- Assumes nothing.
use mathlib.Core.Path.{◌≡◌, refl, sym, subst}
use mathlib.Core.Bool.{Bool, true, false}
use mathlib.Core.List.{List}
use Prim.Native.Nat.{ℕ, zero, suc, ◌<◌}
use native.Mathlib.Nat.{not-suc-le-zero, le_refl}
use native.Mathlib.Omega.{arith}
use lib.Dec.{T}
use Rattle.meaning.specs.Labels.{Label}
use Rattle.meaning.specs.Descriptions.{Term, delta, sync, Order, Description, term_count, term_at}
use Rattle.meaning.specs.Legal.{Legal, LegalTerm}
use Rattle.meaning.specs.Rounds.{sync_shape, are_multi_actions, of_actions, is_multi_action, Shape, joint, shape, round_sets}
use Rattle.meaning.specs.Answers.{Outcome, answer}
use Rattle.meaning.proofs.Tests.{and_both}
use Rattle.meaning.proofs.SyncOrOther.{SyncOrOther, is-sync, other, sync-or-other, built-other}
use Rattle.meaning.proofs.Actions.{multi-is}
use Rattle.meaning.proofs.Least.{term-legal, legal-operands}
use Rattle.meaning.proofs.ByShapes.{rounds_by, answer_by, next_by, shapes-next, turns-rounds, turns-answer}

-- The rules as they were: the shape of a sync, and what its operands had to be: an act, a tau or a sync.
abbrev shape_of : Description → {x : Term} → SyncOrOther x → Shape
shape_of d (is-sync t u) = joint t u
shape_of d (other x o) = shape d x

abbrev pub old_shape : Description → Term → Shape
old_shape d x = shape_of d (sync-or-other x)

abbrev pub OldOperand : Term → Type 0
OldOperand x = T (of_actions (λ t. true) x) × (x ≡ delta → ⊥)

-- What was well-formed then: what is legal now, with such operands of every sync.
pub record OldLegal (d : Description) (o : Order) : Type 0 where
  pub legal : Legal d o
  pub operands : (n t u : ℕ) → term_at d n ≡ sync t u → OldOperand (term_at d t) × OldOperand (term_at d u)

-- The rounds and the answer that it had: all as it is, but for the shape of a sync.
abbrev pub old_rounds : Description → ℕ → List (List Label)
old_rounds d k = rounds_by (next_by (λ n. old_shape d (term_at d n)) (term_count d) d.bodies) k

abbrev pub old_answer : Description → Order → Outcome
old_answer d o = answer_by (next_by (λ n. old_shape d (term_at d n)) (term_count d) d.bodies) d.bodies d.root o

module _ (d : Description) (o : Order) (old : OldLegal d o) where
  -- An operand as it had to be is a multi-action: so are the operands of the syncs in it.
  line-multi : (t : ℕ) → ((i : ℕ) → i < t → OldOperand (term_at d i) → T (is_multi_action d i)) → {x : Term} → SyncOrOther x → term_at d t ≡ x
      → LegalTerm d t x → OldOperand x → T (of_actions (is_multi_action d) x)
  line-multi t below (is-sync u v) e l h =
      let both = old.operands t u v e in
      and_both (is_multi_action d u) (is_multi_action d v) (below u l.0 both.0) (below v l.1 both.1)
  line-multi t below (other x o) e l h = subst T (built-other (λ i. true) (is_multi_action d) x o) h.0

  old-multi : (m t : ℕ) → t < m → OldOperand (term_at d t) → T (is_multi_action d t)
  old-multi zero t l h = absurd (not-suc-le-zero l)
  old-multi (suc m) t l h =
      subst T (sym (multi-is d (legal-operands d o old.legal) t))
      (line-multi t (λ i k. old-multi m i (omega arith)) (sync-or-other (term_at d t)) refl (term-legal d o old.legal t) h)

  -- So every term has the shape that it had.
  sync-same : (t u : ℕ) (b : Bool) → T b → joint t u ≡ sync_shape b t u
  sync-same t u true h = refl
  sync-same t u false h = absurd h

  line_same : (n : ℕ) {x : Term} (k : SyncOrOther x) → term_at d n ≡ x → shape_of d k ≡ shape d x
  line_same n (is-sync t u) e =
      let each = old.operands n t u e in
      sync-same t u (are_multi_actions d t u)
      (and_both (is_multi_action d t) (is_multi_action d u) (old-multi (suc t) t (le_refl (suc t)) each.0) (old-multi (suc u) u (le_refl (suc u)) each.1))
  line_same n (other x o) e = refl

  pub old-shape : (n : ℕ) → old_shape d (term_at d n) ≡ shape d (term_at d n)
  old-shape n = line_same n (sync-or-other (term_at d n)) refl

  pub old-sets : (k : ℕ) → old_rounds d k ≡ round_sets d k
  old-sets =
      turns-rounds d (next_by (λ n. old_shape d (term_at d n)) (term_count d) d.bodies) (shapes-next d (λ n. old_shape d (term_at d n)) old-shape)

  pub old-answer : old_answer d o ≡ answer d o
  old-answer =
      turns-answer d (next_by (λ n. old_shape d (term_at d n)) (term_count d) d.bodies) (shapes-next d (λ n. old_shape d (term_at d n)) old-shape) o
