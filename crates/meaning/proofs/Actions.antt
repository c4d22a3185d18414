-- What a term is built of: a term is a multi-action by its line and by its operands, whatever depth is asked. So two descriptions
-- whose lines agree in it, one by one, agree in it throughout.
-- Assumes nothing.
use mathlib.Core.Path.{◌≡◌, sym, ap₂, ◌∙◌}
use mathlib.Core.Bool.{Bool, true, false, ◌&&◌}
use Prim.Native.Nat.{ℕ, zero, suc, ◌<◌}
use native.Mathlib.Nat.{not-suc-le-zero, le_refl}
use native.Mathlib.Omega.{arith}
use Rattle.meaning.specs.Descriptions.{Term, Description, term_at}
use Rattle.meaning.specs.Rounds.{sync_shape, are_multi_actions, shape, of_actions, actions_only, is_multi_action}
use Rattle.meaning.specs.Regrouping.{Below}
use Rattle.meaning.proofs.SyncOrOther.{SyncOrOther, is-sync, other, sync-or-other, built-other}

-- Operands have smaller numbers, whichever of its two shapes a sync has.
abbrev pub Operands : Description → Type 0
Operands d = (n : ℕ) → Below n (shape d (term_at d n))

pub sync-below : (n t u : ℕ) (b : Bool) → Below n (sync_shape b t u) → (t < n) × (u < n)
sync-below n t u true h = h
sync-below n t u false h = h

pub below-sync : (n t u : ℕ) (b : Bool) → (t < n) × (u < n) → Below n (sync_shape b t u)
below-sync n t u true h = h
below-sync n t u false h = h

-- What is asked of operands alone is the same where it is the same of smaller numbers.
pub below-same : (d : Description) (n : ℕ) (q r : ℕ → Bool) → ((t : ℕ) → t < n → q t ≡ r t) → (x : Term) → Below n (shape d x) → of_actions q x ≡ of_actions r x
below-same d n q r h x = same (sync-or-other x)
  where
    same : {y : Term} → SyncOrOther y → Below n (shape d y) → of_actions q y ≡ of_actions r y
    same (is-sync t u) b = let l = sync-below n t u (are_multi_actions d t u) b in ap₂ {C = Bool} ◌&&◌ (h t l.0) (h u l.1)
    same (other y o) b = built-other q r y o

-- Any depth beyond a term's number is enough.
deep-enough : (d : Description) → Operands d → (m k t : ℕ) → t < m → t < k → actions_only m d t ≡ actions_only k d t
unfolding actions_only
deep-enough d first zero k t l j = absurd (not-suc-le-zero l)
deep-enough d first (suc m) zero t l j = absurd (not-suc-le-zero j)
deep-enough d first (suc m) (suc k) t l j =
    below-same d t (actions_only m d) (actions_only k d) (λ i h. deep-enough d first m k i (omega arith) (omega arith)) (term_at d t) (first t)

pub multi-is : (d : Description) → Operands d → (t : ℕ) → is_multi_action d t ≡ of_actions (is_multi_action d) (term_at d t)
unfolding actions_only
multi-is d first t =
    below-same d t (actions_only t d) (is_multi_action d) (λ i h. deep-enough d first t (suc i) i h (omega arith)) (term_at d t) (first t)

-- Lines that agree one by one, maybe at other numbers, as far as a property goes that holds of smaller numbers too.
module _ (d d' : Description) (first : Operands d) (first' : Operands d') (place : ℕ → ℕ) (Meant : ℕ → Type 0)
    (smaller : (i t : ℕ) → i < t → Meant t → Meant i)
    (line : (t : ℕ) → Meant t → ((i : ℕ) → i < t → is_multi_action d i ≡ is_multi_action d' (place i))
    → of_actions (is_multi_action d) (term_at d t) ≡ of_actions (is_multi_action d') (term_at d' (place t))) where
  up_to : (m t : ℕ) → t < m → Meant t → is_multi_action d t ≡ is_multi_action d' (place t)
  up_to zero t l h = absurd (not-suc-le-zero l)
  up_to (suc m) t l h =
      multi-is d first t
      ∙ line t h (λ i k. up_to m i (omega arith) (smaller i t k h))
      ∙ sym (multi-is d' first' (place t))

  pub lines-agree : (t : ℕ) → Meant t → is_multi_action d t ≡ is_multi_action d' (place t)
  lines-agree t h = up_to (suc t) t (le_refl (suc t)) h
