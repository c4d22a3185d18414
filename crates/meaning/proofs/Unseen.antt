-- For each kind that is not among the exact ones a label that is in the root's set and on no run: the descriptions are those of the
-- table `unseen_cases` (Alphabets.antt), and in each of them every term but one is of the exact kinds.
-- Assumes nothing.
use mathlib.Core.Path.{◌≡◌, refl, sym, ap, ap₂, subst, ◌∙◌}
use mathlib.Core.Logic.{inl, inr}
use mathlib.Core.List.{List, [], ◌∷◌, ◌++◌}
use Prim.Native.Nat.{ℕ, suc}
use native.Mathlib.Omega.{arith}
use lib.Dec.{T}
use lib.ListN.{take, drop}
use Rattle.meaning.specs.Labels.{Label, count, size, single, plus}
use Rattle.meaning.specs.Sets.{◌∈◌}
use Rattle.meaning.specs.Descriptions.{Operator, block, allow, Term}
use Rattle.meaning.specs.Legal.{Legal}
use Rattle.meaning.specs.Rounds.{InSet}
use Rattle.meaning.specs.Runs.{State, ended, term, followed, beside, has_ended, Acts, Step, OnRun}
use Rattle.meaning.specs.Answers.{listed, answer}
use Rattle.meaning.specs.Exact.{are_exact_terms}
use Rattle.meaning.proofs.Alphabets.{Case, unseen_cases, hangs, busy_for_ever, start_cut, start_blocked, start_not_allowed, start_in_step, start_first}
use Rattle.meaning.proofs.Examples.{lists, unseen-holds}
use Rattle.meaning.proofs.Steps.{step_of, left-remains, right-remains, Avoids, on-no-run, stuck-at-once}

abbrev pub all_but : ℕ → List Term → List Term
all_but n terms = take n terms ++ drop (suc n) terms

-- A label that is listed and in the root's set, and on no run, because of the term of one number: all others are of the exact kinds.
pub record Unseen (c : Case) (odd : ℕ) (a : Label) : Type 0 where
  pub legal : Legal c.given c.order
  pub answered : answer c.given c.order ≡ listed c.rounds c.labels
  pub is_listed : a ∈ c.labels
  pub in_set : InSet c.given c.given.root a
  pub never : OnRun c.given a → ⊥
  pub others : T (are_exact_terms (all_but odd c.given.terms))

-- A case of the table, with a label of its list.
beyond : (c : Case) (odd : ℕ) (a : Label) → c ∈ unseen_cases → a ∈ c.labels → T (are_exact_terms (all_but odd c.given.terms)) → (OnRun c.given a → ⊥)
    → Unseen c odd a
beyond c odd a m l others never =
    let h = unseen-holds c m in
    record {
      legal = h.legal;
      answered = h.answered;
      is_listed = l;
      in_set = (((lists h).exactly a).0 l).0;
      never = never;
      others = others;
    }

-- A label that is another one, by a count.
differs : (n : ℕ) {a b c : Label} → b ≡ c → (count c n ≡ count a n → ⊥) → b ≡ a → ⊥
differs n e h x = h (ap (λ (l : Label). count l n) (sym e ∙ x))

-- delta: no step at all.
no-step-of-hangs : (b : Label) (r : State) → Step hangs.given (term 2) b r → ⊥
no-step-of-hangs b r p = let d = hangs.given in step_of d (step_of d p).step

pub unseen-delta : Unseen hangs 0 (1 ∷ [])
unfolding are_exact_terms
unseen-delta = beyond hangs 0 (1 ∷ []) (inl refl) (inl refl) tt (stuck-at-once hangs.given no-step-of-hangs)

-- ref: every step of the reference is busy, and leads to the reference again.
data Busy : State → Type 0 where
  at-root : Busy (term 4)
  again : Busy (followed (followed ended 1) 3)

busy-step : {b : Label} {r : State} → Step busy_for_ever.given (term 1) b r → (b ≡ single 2 0) × (r ≡ followed ended 1)
busy-step p =
    let d = busy_for_ever.given in
    let x = step_of d (step_of d p) in
    let y = step_of d x.step in
    (y.0, x.leads ∙ ap (λ (s : State). followed s 1) y.1)

-- the step of the root and of the state after it: of the reference, with done to follow
busy-first : {b : Label} {r s : State} → Step busy_for_ever.given (term 1) b s → r ≡ followed s 3 → (b ≡ 0 ∷ 1 ∷ [] → ⊥) × Busy r
busy-first p e =
    let x = busy-step p in
    (differs 1 x.0 (λ c. omega (arith, c)), subst Busy (sym (e ∙ ap (λ (s : State). followed s 3) x.1)) again)

keeps-busy : Avoids busy_for_ever.given (0 ∷ 1 ∷ []) Busy
unfolding has_ended
keeps-busy s b r at-root p = let x = step_of busy_for_ever.given p in busy-first x.step x.leads
keeps-busy s b r again p =
    let d = busy_for_ever.given in
    elim (step_of d p) [
      | inl x ↦ elim (step_of d x.step) [ inl y ↦ absurd (step_of d y.step) | inr y ↦ busy-first y.1 x.leads ]
      | inr x ↦ absurd x.0
    ]

pub unseen-ref : Unseen busy_for_ever 1 (0 ∷ 1 ∷ [])
unfolding are_exact_terms
unseen-ref =
    beyond busy_for_ever 1 (0 ∷ 1 ∷ []) (inr (inl refl)) (inr (inl refl)) tt
    (on-no-run busy_for_ever.given (0 ∷ 1 ∷ []) Busy keeps-busy at-root)

-- block and allow: the first step is a start, which is cut.
no-step-of-cut : (o : Operator) → ((b : Label) → Acts 2 o (1 ∷ 0 ∷ []) b → ⊥) → (b : Label) (r : State) → Step (start_cut o).given (term 3) b r → ⊥
no-step-of-cut o h b r p =
    let d = (start_cut o).given in
    let x = step_of d (step_of d p) in
    let y = step_of d (step_of d x.step).step in
    h b (subst (λ (a : Label). Acts 2 o a b) y.0 x.acts)

pub unseen-block : Unseen start_blocked 3 (0 ∷ 1 ∷ [])
unfolding are_exact_terms
unseen-block =
    beyond start_blocked 3 (0 ∷ 1 ∷ []) (inr (inr (inl refl))) (inl refl) tt
    (stuck-at-once start_blocked.given (no-step-of-cut (block (0 ∷ [])) (λ b x. omega (arith, x.1 0 (inl refl)))))

pub unseen-allow : Unseen start_not_allowed 3 (0 ∷ 1 ∷ [])
unfolding are_exact_terms size
unseen-allow =
    beyond start_not_allowed 3 (0 ∷ 1 ∷ []) (inr (inr (inr (inl refl)))) (inl refl) tt
    (stuck-at-once start_not_allowed.given (no-step-of-cut (allow ((0 ∷ 1 ∷ []) ∷ [])) (λ b x.
    elim x.1 [ inl m ↦ elim m [ inl e ↦ differs 0 refl (λ c. omega (arith, c)) e | inr n ↦ n ] | inr e ↦ omega (arith, e) ])))

-- sync: the first step is of both sides, and after it only done is left.
data InStep : State → Type 0 where
  at-root : InStep (term 4)
  left-goes-on : InStep (beside (followed ended 1) ended)
  both-ended : InStep (beside ended ended)

stays-in-step : Avoids start_in_step.given (1 ∷ 0 ∷ 0 ∷ []) InStep
unfolding plus
stays-in-step s b r at-root p =
    let d = start_in_step.given in
    let x = step_of d p in
    let y = step_of d x.step in
    let z = step_of d y.step in
    let w = step_of d x.other_step in (
      differs 2 (x.adds ∙ ap₂ plus z.0 w.0) (λ e. omega (arith, e)),
      subst InStep (sym (x.leads ∙ ap₂ {C = State} beside (y.leads ∙ ap (λ (q : State). followed q 1) z.1) w.1)) left-goes-on,
    )
stays-in-step s b r left-goes-on p =
    let d = start_in_step.given in
    let x = left-remains d p in
    elim (step_of d x.step) [
      | inl y ↦ absurd (step_of d y.step)
      | inr y ↦ let z = step_of d y.1 in
          (differs 0 z.0 (λ e. omega (arith, e)), subst InStep (sym (x.leads ∙ ap (λ (q : State). beside q ended) z.1)) both-ended)
    ]
stays-in-step s b r both-ended p = let d = start_in_step.given in absurd (step_of d (left-remains d p).step)

pub unseen-sync : Unseen start_in_step 4 (1 ∷ 0 ∷ 0 ∷ [])
unfolding are_exact_terms
unseen-sync =
    beyond start_in_step 4 (1 ∷ 0 ∷ 0 ∷ []) (inr (inr (inr (inr (inl refl))))) (inl refl) tt
    (on-no-run start_in_step.given (1 ∷ 0 ∷ 0 ∷ []) InStep stays-in-step at-root)

-- lmerge: the first step is of the left side alone, and after it only the right is left.
data LeftFirst : State → Type 0 where
  at-root : LeftFirst (term 2)
  right-waits : LeftFirst (beside ended (term 1))
  both-ended : LeftFirst (beside ended ended)

one-after-another : Avoids start_first.given (1 ∷ 1 ∷ []) LeftFirst
one-after-another s b r at-root p =
    let d = start_first.given in
    let x = step_of d p in
    let y = step_of d x.step in
    (differs 1 y.0 (λ e. omega (arith, e)), subst LeftFirst (sym (x.leads ∙ ap (λ (q : State). beside q (term 1)) y.1)) right-waits)
one-after-another s b r right-waits p =
    let d = start_first.given in
    let x = right-remains d p in
    let y = step_of d x.step in
    (differs 0 y.0 (λ e. omega (arith, e)), subst LeftFirst (sym (x.leads ∙ ap (beside ended) y.1)) both-ended)
one-after-another s b r both-ended p = let d = start_first.given in absurd (step_of d (right-remains d p).step)

pub unseen-lmerge : Unseen start_first 2 (1 ∷ 1 ∷ [])
unfolding are_exact_terms
unseen-lmerge =
    beyond start_first 2 (1 ∷ 1 ∷ []) (inr (inr (inr (inr (inr (inl refl)))))) (inr (inr (inl refl))) tt
    (on-no-run start_first.given (1 ∷ 1 ∷ []) LeftFirst one-after-another at-root)
