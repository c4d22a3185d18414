-- The steps of a state by its form, of a term by its kind, and how a label is shown to be on no run.
-- Assumes nothing.
use mathlib.Core.Path.{◌≡◌, refl, sym, subst}
use mathlib.Core.Logic.{◌⊎◌, inl, inr}
use mathlib.Core.List.{List}
use lib.Dec.{T}
use Rattle.meaning.specs.Labels.{Label, empty, single, plus}
use Rattle.meaning.specs.Sets.{◌∈◌}
use Rattle.meaning.specs.Descriptions.{Operator, Term, act, tau, delta, ref, sum, cond, choice, ifelse, seq, merge, lmerge}
use Rattle.meaning.specs.Descriptions.{sync, wrap, Description, names, term_at, body_at}
use Rattle.meaning.specs.Runs.{State, ended, term, followed, beside, within, has_ended, Acts, Step, by-act, by-tau, by-ref, by-sum, by_cond}
use Rattle.meaning.specs.Runs.{by-choice-left, by-choice-right, by-ifelse-left, by-ifelse-right, by-seq, by-merge, by-lmerge, by-sync}
use Rattle.meaning.specs.Runs.{by-operator, before, after, on-left, on-right, on_both, inner, Run, stop, go, OnRun}

module _ (d : Description) where
  -- A step of a part of a state, around which the rest stays as it is; a step of two parts at once; one within an operator.
  pub record OfPart (s : State) (a : Label) (around : State → State) (r : State) : Type 0 where
    pub part : State
    pub step : Step d s a part
    pub leads : r ≡ around part

  pub record OfBoth (s q : State) (a : Label) (r : State) : Type 0 where
    pub left : Label
    pub right : Label
    pub part : State
    pub other : State
    pub step : Step d s left part
    pub other_step : Step d q right other
    pub adds : a ≡ plus left right
    pub leads : r ≡ beside part other

  pub record OfInner (o : Operator) (s : State) (b : Label) (r : State) : Type 0 where
    pub label : Label
    pub part : State
    pub step : Step d s label part
    pub acts : Acts (names d) o label b
    pub leads : r ≡ within o part

  -- What a step is, by the state and by the kind of a term.
  abbrev pub OfTerm : Term → Label → State → Type 0
  OfTerm (act n) a r = (a ≡ single (names d) n) × (r ≡ ended)
  OfTerm tau a r = (a ≡ empty (names d)) × (r ≡ ended)
  OfTerm delta a r = ⊥
  OfTerm (ref e) a r = Step d (term (body_at d e)) a r
  OfTerm (sum u) a r = Step d (term u) a r
  OfTerm (cond u) a r = Step d (term u) a r
  OfTerm (choice u v) a r = Step d (term u) a r ⊎ Step d (term v) a r
  OfTerm (ifelse u v) a r = Step d (term u) a r ⊎ Step d (term v) a r
  OfTerm (seq u v) a r = OfPart (term u) a (λ s. followed s v) r
  OfTerm (merge u v) a r = Step d (beside (term u) (term v)) a r
  OfTerm (lmerge u v) a r = OfPart (term u) a (λ s. beside s (term v)) r
  OfTerm (sync u v) a r = OfBoth (term u) (term v) a r
  OfTerm (wrap o u) a r = Step d (within o (term u)) a r

  abbrev pub OfState : State → Label → State → Type 0
  OfState ended a r = ⊥
  OfState (term t) a r = OfTerm (term_at d t) a r
  OfState (followed s u) a r = OfPart s a (λ x. followed x u) r ⊎ (T (has_ended s) × Step d (term u) a r)
  OfState (beside s q) a r = (OfPart s a (λ x. beside x q) r ⊎ OfPart q a (beside s) r) ⊎ OfBoth s q a r
  OfState (within o s) a r = OfInner o s a r

  of-kind : {x y : Term} → y ≡ x → (a : Label) (r : State) → OfTerm x a r → OfTerm y a r
  of-kind e a r = subst (λ (z : Term). OfTerm z a r) (sym e)

  part_of : {s r : State} {a : Label} (around : State → State) → Step d s a r → OfPart s a around (around r)
  part_of {r = r} around p = record { part = r; step = p; leads = refl }

  both_of : {s r q p : State} {a b : Label} → Step d s a r → Step d q b p → OfBoth s q (plus a b) (beside r p)
  both_of {r = r} {p = p} {a = a} {b = b} x y =
      record { left = a; right = b; part = r; other = p; step = x; other_step = y; adds = refl; leads = refl }

  pub step_of : {s r : State} {a : Label} → Step d s a r → OfState s a r
  step_of (by-act {n = n} e) = of-kind e (single (names d) n) ended (refl, refl)
  step_of (by-tau e) = of-kind e (empty (names d)) ended (refl, refl)
  step_of (by-ref {a = a} {s = s} e p) = of-kind e a s p
  step_of (by-sum {a = a} {s = s} e p) = of-kind e a s p
  step_of (by_cond {a = a} {s = s} e p) = of-kind e a s p
  step_of (by-choice-left {a = a} {s = s} e p) = of-kind e a s (inl p)
  step_of (by-choice-right {a = a} {s = s} e p) = of-kind e a s (inr p)
  step_of (by-ifelse-left {a = a} {s = s} e p) = of-kind e a s (inl p)
  step_of (by-ifelse-right {a = a} {s = s} e p) = of-kind e a s (inr p)
  step_of (by-seq {v = v} {a = a} {s = s} e p) = of-kind e a (followed s v) (part_of (λ x. followed x v) p)
  step_of (by-merge {a = a} {s = s} e p) = of-kind e a s p
  step_of (by-lmerge {v = v} {a = a} {s = s} e p) = of-kind e a (beside s (term v)) (part_of (λ x. beside x (term v)) p)
  step_of (by-sync {a = a} {b = b} {s = s} {r = r} e p q) = of-kind e (plus a b) (beside s r) (both_of p q)
  step_of (by-operator {a = a} {s = s} e p) = of-kind e a s p
  step_of (before {u = u} p) = inl (part_of (λ x. followed x u) p)
  step_of (after t p) = inr (t, p)
  step_of (on-left {q = q} p) = inl (inl (part_of (λ x. beside x q) p))
  step_of (on-right {q = q} p) = inl (inr (part_of (beside q) p))
  step_of (on_both p q) = inr (both_of p q)
  step_of (inner {a = a} {r = r} p x) = record { label = a; part = r; step = p; acts = x; leads = refl }

  -- When one side of a merge has ended, the other remains.
  pub left-remains : {s r : State} {a : Label} → Step d (beside s ended) a r → OfPart s a (λ x. beside x ended) r
  left-remains p =
      elim (step_of p) [
        | inl x ↦ elim x [ inl y ↦ y | inr y ↦ absurd (step_of y.step) ]
        | inr x ↦ absurd (step_of x.other_step)
      ]

  pub right-remains : {q r : State} {a : Label} → Step d (beside ended q) a r → OfPart q a (beside ended) r
  right-remains p =
      elim (step_of p) [
        | inl x ↦ elim x [ inl y ↦ absurd (step_of y.step) | inr y ↦ y ]
        | inr x ↦ absurd (step_of x.step)
      ]

  -- A label is on no run if the states that runs come to have no step with it.
  module _ (a : Label) (Reached : State → Type 0) where
    abbrev pub Avoids : Type 0
    Avoids = (s : State) (b : Label) (r : State) → Reached s → Step d s b r → (b ≡ a → ⊥) × Reached r

    avoided : Avoids → {s r : State} {labels : List Label} → Reached s → Run d s labels r → a ∈ labels → ⊥
    avoided h x (stop s) m = m
    avoided h x (go p more) (inl e) = (h _ _ _ x p).0 (sym e)
    avoided h x (go p more) (inr m) = avoided h (h _ _ _ x p).1 more m

    pub on-no-run : Avoids → Reached (term d.root) → OnRun d a → ⊥
    on-no-run h x o = avoided h x o.run o.met

  pub stuck-at-once : {a : Label} → ((b : Label) (r : State) → Step d (term d.root) b r → ⊥) → OnRun d a → ⊥
  stuck-at-once {a} h =
      on-no-run a (λ s. s ≡ term d.root) (λ s b r e p. absurd (h b r (subst (λ (x : State). Step d x b r) e p))) refl
