-- Soundness: every label on any finite run from the root of a legal description is in the root's set.
-- Assumes nothing.
use mathlib.Core.Path.{◌≡◌, refl, sym, subst}
use mathlib.Core.Logic.{◌⊎◌, inl, inr}
use mathlib.Core.Bool.{Bool, true, false}
use mathlib.Core.List.{List}
use Prim.Native.Nat.{ℕ, zero, suc}
use lib.Dec.{T}
use Rattle.meaning.specs.Labels.{Label}
use Rattle.meaning.specs.Sets.{◌∈◌}
use Rattle.meaning.specs.Descriptions.{Term, act, tau, ref, sum, cond, choice, ifelse, seq, merge, lmerge}
use Rattle.meaning.specs.Descriptions.{sync, wrap, Order, Description, names, term_at, body_at}
use Rattle.meaning.specs.Legal.{LegalOperator, LegalTerm, Legal}
use Rattle.meaning.specs.Rounds.{sync_shape, are_multi_actions, image, of_actions, actions_only, is_multi_action, shape, InSet}
use Rattle.meaning.specs.Runs.{State, ended, term, followed, beside, within, Step, by-act, by-tau, by-ref, by-sum, by_cond}
use Rattle.meaning.specs.Runs.{by-choice-left, by-choice-right, by-ifelse-left, by-ifelse-right, by-seq, by-merge, by-lmerge, by-sync}
use Rattle.meaning.specs.Runs.{by-operator, before, after, on-left, on-right, on_both, inner, Run, stop, go, OnRun}
use Rattle.meaning.proofs.Tests.{and_left, and_right}
use Rattle.meaning.proofs.Members.{Through, Sum}
use Rattle.meaning.proofs.Shapes.{Made, sum-grows}
use Rattle.meaning.proofs.Operators.{acts-image}
use Rattle.meaning.proofs.Least.{term-legal, sets-meet}

-- The labels that a state may still show, by the rules of the sets.
abbrev Can : Description → State → Label → Type 0
Can d ended a = ⊥
Can d (term t) a = InSet d t a
Can d (followed s u) a = Can d s a ⊎ InSet d u a
Can d (beside s r) a = (Can d s a ⊎ Can d r a) ⊎ Sum (Can d s) (Can d r) a
Can d (within o s) a = Through (image (names d) o) (Can d s) a

-- The operators of a state are legal.
abbrev Fine : Description → State → Type 0
Fine d ended = Unit {0}
Fine d (term t) = Unit {0}
Fine d (followed s u) = Fine d s
Fine d (beside s r) = Fine d s × Fine d r
Fine d (within o s) = LegalOperator (names d) o × Fine d s

-- A step shows a label that its state can, and leads to a state that can do no more.
record Kept (d : Description) (s : State) (a : Label) (r : State) : Type 0 where
  shown : Can d s a
  rest : (b : Label) → Can d r b → Can d s b
  fine : Fine d r

-- two states that can do nothing can do nothing side by side
silent : {P Q : Label → Type 0} {b : Label} → ((x : Label) → P x → ⊥) → ((x : Label) → Q x → ⊥) → (P b ⊎ Q b) ⊎ Sum P Q b → ⊥
silent {b = b} p q (inl (inl c)) = p b c
silent {b = b} p q (inl (inr c)) = q b c
silent p q (inr c) = p c.left c.in_left

beside-grows : {P Q P' Q' : Label → Type 0} {b : Label} → ((x : Label) → P x → P' x) → ((x : Label) → Q x → Q' x)
    → (P b ⊎ Q b) ⊎ Sum P Q b → (P' b ⊎ Q' b) ⊎ Sum P' Q' b
beside-grows {b = b} p q (inl (inl c)) = inl (inl (p b c))
beside-grows {b = b} p q (inl (inr c)) = inl (inr (q b c))
beside-grows p q (inr c) = inr (sum-grows p q c)

-- a state that can do all that another can
as-part : (d : Description) {s s' r : State} {a : Label} → ((b : Label) → Can d s b → Can d s' b) → Kept d s a r → Kept d s' a r
as-part d {a = a} f k = record { shown = f a k.shown; rest = λ b c. f b (k.rest b c); fine = k.fine }

module _ (d : Description) (o : Order) (legal : Legal d o) where
  -- what a term is made of, with its kind known
  from : (t : ℕ) (x : Term) → term_at d t ≡ x → (a : Label) → Made (λ e. InSet d (body_at d e)) (InSet d) (shape d x) a → InSet d t a
  from t x e a m = sets-meet d o legal t a (subst (λ (y : Term). Made (λ n. InSet d (body_at d n)) (InSet d) (shape d y) a) (sym e) m)

  legal-as : (t : ℕ) (x : Term) → term_at d t ≡ x → LegalTerm d t x
  legal-as t x e = subst (λ (y : Term). LegalTerm d t y) e (term-legal d o legal t)

  -- a multi-action ends with its one step
  multi-as : (deep t : ℕ) (x : Term) → term_at d t ≡ x → T (actions_only (suc deep) d t) → T (of_actions (actions_only deep d) x)
  unfolding actions_only
  multi-as deep t x e = subst (λ (y : Term). T (of_actions (actions_only deep d) y)) e

  never : (t : ℕ) → T (actions_only 0 d t) → ⊥
  unfolding actions_only
  never t h = h

  quiet : (deep : ℕ) {t : ℕ} {a : Label} {s : State} → T (actions_only deep d t) → Step d (term t) a s → (b : Label) → Can d s b → ⊥
  quiet zero {t} h p b c = never t h
  quiet (suc deep) {t} h (by-act e) b c = c
  quiet (suc deep) {t} h (by-tau e) b c = c
  quiet (suc deep) {t} h (by-ref {e = n} e p) b c = multi-as deep t (ref n) e h
  quiet (suc deep) {t} h (by-sum {u = u} e p) b c = multi-as deep t (sum u) e h
  quiet (suc deep) {t} h (by_cond {u = u} e p) b c = multi-as deep t (cond u) e h
  quiet (suc deep) {t} h (by-choice-left {u = u} {v = v} e p) b c = multi-as deep t (choice u v) e h
  quiet (suc deep) {t} h (by-choice-right {u = u} {v = v} e p) b c = multi-as deep t (choice u v) e h
  quiet (suc deep) {t} h (by-ifelse-left {u = u} {v = v} e p) b c = multi-as deep t (ifelse u v) e h
  quiet (suc deep) {t} h (by-ifelse-right {u = u} {v = v} e p) b c = multi-as deep t (ifelse u v) e h
  quiet (suc deep) {t} h (by-seq {u = u} {v = v} e p) b c = multi-as deep t (seq u v) e h
  quiet (suc deep) {t} h (by-merge {u = u} {v = v} e p) b c = multi-as deep t (merge u v) e h
  quiet (suc deep) {t} h (by-lmerge {u = u} {v = v} e p) b c = multi-as deep t (lmerge u v) e h
  quiet (suc deep) {t} h (by-operator {u = u} {o = w} e p) b c = multi-as deep t (wrap w u) e h
  quiet (suc deep) {t} h (by-sync {u = u} {v = v} e p q) b c =
      let each = multi-as deep t (sync u v) e h in
      silent (quiet deep (and_left (actions_only deep d u) (actions_only deep d v) each) p)
      (quiet deep (and_right (actions_only deep d u) (actions_only deep d v) each) q) c

  -- The joint step of a sync, and what its sides can do after it: nothing where both are multi-actions.
  abbrev Synced : Bool → ℕ → ℕ → Label → Type 0
  Synced multi u v = Made (λ e. InSet d (body_at d e)) (InSet d) (sync_shape multi u v)

  joint-step : (multi : Bool) (u v : ℕ) (a : Label) → Sum (InSet d u) (InSet d v) a → Synced multi u v a
  joint-step true u v a x = x
  joint-step false u v a x = inr x

  after-sync : (multi : Bool) (u v : ℕ) {a b : Label} {s r : State} → are_multi_actions d u v ≡ multi
      → Step d (term u) a s → Kept d (term u) a s → Step d (term v) b r → Kept d (term v) b r → (c : Label) → Can d (beside s r) c → Synced multi u v c
  after-sync true u v e p k q l c x =
      let each = subst T (sym e) tt in
      absurd (silent (quiet (suc u) (and_left (is_multi_action d u) (is_multi_action d v) each) p)
      (quiet (suc v) (and_right (is_multi_action d u) (is_multi_action d v) each) q) x)
  after-sync false u v e p k q l c x = beside-grows k.rest l.rest x

  kept : {s r : State} {a : Label} → Fine d s → Step d s a r → Kept d s a r
  kept h (by-act {t = t} {n = n} e) = record { shown = from t (act n) e _ (inl refl); rest = λ b c. absurd c; fine = tt }
  kept h (by-tau {t = t} e) = record { shown = from t tau e _ (inl refl); rest = λ b c. absurd c; fine = tt }
  kept h (by-ref {t = t} {e = n} e p) = as-part d (from t (ref n) e) (kept tt p)
  kept h (by-sum {t = t} {u = u} e p) = as-part d (from t (sum u) e) (kept tt p)
  kept h (by_cond {t = t} {u = u} e p) = as-part d (from t (cond u) e) (kept tt p)
  kept h (by-choice-left {t = t} {u = u} {v = v} e p) = as-part d (λ b m. from t (choice u v) e b (inl m)) (kept tt p)
  kept h (by-choice-right {t = t} {u = u} {v = v} e p) = as-part d (λ b m. from t (choice u v) e b (inr m)) (kept tt p)
  kept h (by-ifelse-left {t = t} {u = u} {v = v} e p) = as-part d (λ b m. from t (ifelse u v) e b (inl m)) (kept tt p)
  kept h (by-ifelse-right {t = t} {u = u} {v = v} e p) = as-part d (λ b m. from t (ifelse u v) e b (inr m)) (kept tt p)
  kept h (by-seq {t = t} {u = u} {v = v} {a = a} e p) =
      let k = kept tt p in
      record {
        shown = from t (seq u v) e a (inl k.shown);
        rest = λ b c. from t (seq u v) e b (elim c [ inl x ↦ inl (k.rest b x) | inr x ↦ inr x ]);
        fine = k.fine;
      }
  kept h (by-merge {t = t} {u = u} {v = v} e p) = as-part d (from t (merge u v) e) (kept (tt, tt) p)
  kept h (by-lmerge {t = t} {u = u} {v = v} {a = a} e p) =
      let k = kept tt p in
      record {
        shown = from t (lmerge u v) e a (inl (inl k.shown));
        rest = λ b c. from t (lmerge u v) e b (beside-grows k.rest (λ x m. m) c);
        fine = (k.fine, tt);
      }
  kept h (by-sync {t = t} {u = u} {v = v} {a = a} {b = a'} e p q) =
      let k = kept tt p in
      let l = kept tt q in
      let multi = are_multi_actions d u v in
      record {
        shown = from t (sync u v) e _
            (joint-step multi u v _ (record { left = a; right = a'; in_left = k.shown; in_right = l.shown; adds = refl }));
        rest = λ b c. from t (sync u v) e b (after-sync multi u v refl p k q l b c);
        fine = (k.fine, l.fine);
      }
  kept h (by-operator {t = t} {u = u} {o = w} e p) = as-part d (from t (wrap w u) e) (kept ((legal-as t (wrap w u) e).1, tt) p)
  kept h (before p) =
      let k = kept h p in
      record { shown = inl k.shown; rest = λ b c. elim c [ inl x ↦ inl (k.rest b x) | inr x ↦ inr x ]; fine = k.fine }
  kept h (after t p) = as-part d (λ b m. inr m) (kept tt p)
  kept h (on-left p) =
      let k = kept h.0 p in
      record { shown = inl (inl k.shown); rest = λ b. beside-grows k.rest (λ x m. m); fine = (k.fine, h.1) }
  kept h (on-right p) =
      let k = kept h.1 p in
      record { shown = inl (inr k.shown); rest = λ b. beside-grows (λ x m. m) k.rest; fine = (h.0, k.fine) }
  kept h (on_both {a = a} {b = a'} p q) =
      let k = kept h.0 p in
      let l = kept h.1 q in
      record {
        shown = inr (record { left = a; right = a'; in_left = k.shown; in_right = l.shown; adds = refl });
        rest = λ b. beside-grows k.rest l.rest;
        fine = (k.fine, l.fine);
      }
  kept h (inner {o = w} {a = a} {b = a'} p x) =
      let k = kept h.1 p in
      record {
        shown = record { source = a; there = k.shown; gives = acts-image (names d) w h.0 a a' x };
        rest = λ b c. record { source = c.source; there = k.rest c.source c.there; gives = c.gives };
        fine = (h.0, k.fine);
      }

  run-shows : {s r : State} {labels : List Label} → Fine d s → Run d s labels r → (a : Label) → a ∈ labels → Can d s a
  run-shows h (stop s) a m = absurd m
  run-shows {s = s} h (go p more) a (inl e) = subst (λ (b : Label). Can d s b) (sym e) (kept h p).shown
  run-shows h (go p more) a (inr m) = let k = kept h p in k.rest a (run-shows k.fine more a m)

  pub on_run→in_set : (a : Label) → OnRun d a → InSet d d.root a
  on_run→in_set a x = run-shows tt x.run a x.met
