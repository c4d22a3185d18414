-- Exact lists: a description of the kinds that `ExactTerm` names shows every label of its root's set on some finite run.
-- Assumes nothing.
use mathlib.Core.Path.{◌≡◌, refl, sym, subst}
use mathlib.Core.Logic.{inl, inr, ◌↔◌}
use mathlib.Core.List.{List, [], ◌∷◌}
use Prim.Native.Nat.{ℕ, zero, suc, ◌<◌}
use native.Mathlib.Nat.{not-suc-le-zero}
use native.Mathlib.Omega.{arith}
use native.Mathlib.Decide.{dec_lt}
use lib.Dec.{T}
use lib.ListN.{get_or-eq_default}
use Rattle.meaning.specs.Labels.{Label, empty, single, plus}
use Rattle.meaning.specs.Sets.{◌∈◌}
use Rattle.meaning.specs.Descriptions.{Operator, Term, delta, seq}
use Rattle.meaning.specs.Descriptions.{Order, Description, names, term_count, term_at, body_at}
use Rattle.meaning.specs.Legal.{LegalTerm, Legal}
use Rattle.meaning.specs.Rounds.{shape, InSet}
use Rattle.meaning.specs.Runs.{State, ended, term, followed, beside, within, has_ended, Acts, Step, by-act, by-tau, by-sum, by_cond}
use Rattle.meaning.specs.Runs.{by-choice-left, by-choice-right, by-ifelse-left, by-ifelse-right, by-seq, by-merge}
use Rattle.meaning.specs.Runs.{by-operator, before, after, on_both, OnRun}
use Rattle.meaning.specs.Answers.{Allows, Lists}
use Rattle.meaning.specs.Exact.{ExactOperator, ExactTerm, an-act, a-tau, a_sum, a-cond, a-choice, an-ifelse, a-seq, a-merge, an-operator, OfExactKinds}
use Rattle.meaning.proofs.Tests.{and_both}
use Rattle.meaning.proofs.Members.{in-at}
use Rattle.meaning.proofs.Shapes.{Made}
use Rattle.meaning.proofs.Operators.{image-acts, acts-image}
use Rattle.meaning.proofs.Least.{Meets, term-legal, sets-least}
use Rattle.meaning.proofs.Soundness.{on_run→in_set}
use Rattle.meaning.proofs.Passages.{Passes, at_once, all_of, from-earlier, and-on, up_to, StepsAs, passes-as, onto, leads-in, passes-in, before-term}
use Rattle.meaning.proofs.Passages.{left-of, right_of, in-operator}

module _ (d : Description) where
  -- A state shows a label on a run that comes to an end.
  record Shows (s : State) (a : Label) : Type 0 where
    final : State
    passes : Passes d s a final
    done : T (has_ended final)

  shows-as : {s s' : State} {a : Label} → StepsAs d s s' → Shows s a → Shows s' a
  shows-as f x = record { final = x.final; passes = passes-as d f x.passes; done = x.done }

  -- In sequence: the right follows once the left has ended.
  then-right : {s : State} {u : ℕ} {b : Label} → T (has_ended s) → (y : Shows (term u) b) → Passes d (followed s u) b y.final
  then-right t y = passes-as d (λ b r p. after t p) y.passes

  in_left_lem : {s : State} {u : ℕ} {a b : Label} → Shows s a → Shows (term u) b → Shows (followed s u) a
  in_left_lem {u = u} x y =
      record {
        final = y.final;
        passes = and-on d (passes-in d (before-term d u) refl x.passes) (all_of d (then-right x.done y));
        done = y.done;
      }

  in_right_lem : {s : State} {u : ℕ} {a b : Label} → Shows s a → Shows (term u) b → Shows (followed s u) b
  in_right_lem {u = u} x y =
      record {
        final = y.final;
        passes = from-earlier d (leads-in d (before-term d u) (all_of d x.passes)) (then-right x.done y);
        done = y.done;
      }

  -- Side by side: each side alone, then the other; or both up to their labels, these in one step, and both to their ends.
  both-ended : (s r : State) → T (has_ended s) → T (has_ended r) → T (has_ended (beside s r))
  unfolding has_ended
  both-ended s r p q = and_both (has_ended s) (has_ended r) p q

  module _ {s r : State} {a b : Label} (x : Shows s a) (y : Shows r b) where
    to-both-ends : {c : Label} → Passes d (beside s r) c (beside x.final y.final) → Shows (beside s r) c
    to-both-ends p = record { final = beside x.final y.final; passes = p; done = both-ended x.final y.final x.done y.done }

    left_alone : Shows (beside s r) a
    left_alone =
        to-both-ends (and-on d (passes-in d (left-of d r) refl x.passes) (leads-in d (right_of d x.final) (all_of d y.passes)))

    right-alone : Shows (beside s r) b
    right-alone =
        to-both-ends (from-earlier d (leads-in d (left-of d r) (all_of d x.passes)) (passes-in d (right_of d x.final) refl y.passes))

    at-the-same-time : Shows (beside s r) (plus a b)
    at-the-same-time =
        let p = x.passes in
        let q = y.passes in
        to-both-ends
        (record {
          here = beside p.here q.here;
          next = beside p.next q.next;
          lead = onto d (leads-in d (left-of d r) p.lead) (leads-in d (right_of d p.here) q.lead);
          step = on_both p.step q.step;
          rest = onto d (leads-in d (left-of d q.next) p.rest) (leads-in d (right_of d x.final) q.rest);
        })

  -- Within an exact operator, which lets every label happen in some form.
  within-ended : (o : Operator) (s : State) → T (has_ended s) → T (has_ended (within o s))
  unfolding has_ended
  within-ended o s t = t

  in-form : {o : Operator} {s : State} {a b : Label} → ExactOperator o → Acts (names d) o a b → Shows s a → Shows (within o s) b
  in-form {o} k x y =
      record {
        final = within o y.final;
        passes = passes-in d (in-operator d k) x y.passes;
        done = within-ended o y.final y.done;
      }

  -- A term that shows some label, and a kind of term that makes some of what is shown.
  record Ends (t : ℕ) : Type 0 where
    label : Label
    shows : Shows (term t) label

  abbrev OfShown : Term → Label → Type 0
  OfShown x = Made (λ e. Shows (term (body_at d e))) (λ u. Shows (term u)) (shape d x)

  record Makes (x : Term) : Type 0 where
    label : Label
    made : OfShown x label

  module _ (t : ℕ) (below : (u : ℕ) → u < t → Ends u) where
    seq-as : {u v : ℕ} → term_at d t ≡ seq u v → StepsAs d (followed (term u) v) (term t)
    unfolding has_ended
    seq-as e b r (before p) = by-seq e p
    seq-as e b r (after h p) = absurd h

    leaf-shown : (b : Label) → Step d (term t) b ended → (a : Label) → a ∈ (b ∷ []) → Shows (term t) a
    unfolding has_ended
    leaf-shown b p a (inl e) = subst (Shows (term t)) (sym e) (record { final = ended; passes = at_once d p; done = tt })
    leaf-shown b p a (inr m) = absurd m

    -- Where every earlier term shows some label, a term shows whatever it makes of what they show.
    shows-made : {x : Term} → term_at d t ≡ x → ExactTerm x → LegalTerm d t x → (a : Label) → OfShown x a → Shows (term t) a
    shows-made e (an-act n) h a m = leaf-shown (single (names d) n) (by-act e) a m
    shows-made e a-tau h a m = leaf-shown (empty (names d)) (by-tau e) a m
    shows-made e (a_sum u) h a m = shows-as (λ b r p. by-sum e p) m
    shows-made e (a-cond u) h a m = shows-as (λ b r p. by_cond e p) m
    shows-made e (a-choice u v) h a m =
        elim m [ inl x ↦ shows-as (λ b r p. by-choice-left e p) x | inr x ↦ shows-as (λ b r p. by-choice-right e p) x ]
    shows-made e (an-ifelse u v) h a m =
        elim m [ inl x ↦ shows-as (λ b r p. by-ifelse-left e p) x | inr x ↦ shows-as (λ b r p. by-ifelse-right e p) x ]
    shows-made e (a-seq u v) h a m =
        shows-as (seq-as e) (elim m [ inl x ↦ in_left_lem x (below v h.1).shows | inr x ↦ in_right_lem (below u h.0).shows x ])
    shows-made e (a-merge u v) h a m =
        shows-as (λ b r p. by-merge e p)
        (elim m [
          | inl x ↦ elim x [ inl y ↦ left_alone y (below v h.1).shows | inr y ↦ right-alone (below u h.0).shows y ]
          | inr x ↦ subst (Shows (beside (term u) (term v))) (sym x.adds) (at-the-same-time x.in_left x.in_right)
        ])
    shows-made e (an-operator {o} k u) h a m =
        shows-as (λ b r p. by-operator e p) (in-form k (image-acts (names d) o m.source a m.gives) m.there)

    -- And it makes some label, so that it shows one in turn.
    makes : {x : Term} → ExactTerm x → LegalTerm d t x → Makes x
    makes (an-act n) h = record { label = single (names d) n; made = inl refl }
    makes a-tau h = record { label = empty (names d); made = inl refl }
    makes (a_sum u) h = let x = below u h in record { label = x.label; made = x.shows }
    makes (a-cond u) h = let x = below u h in record { label = x.label; made = x.shows }
    makes (a-choice u v) h = let x = below u h.0 in record { label = x.label; made = inl x.shows }
    makes (an-ifelse u v) h = let x = below u h.0 in record { label = x.label; made = inl x.shows }
    makes (a-seq u v) h = let x = below u h.0 in record { label = x.label; made = inl x.shows }
    makes (a-merge u v) h = let x = below u h.0 in record { label = x.label; made = inl (inl x.shows) }
    makes (an-operator {o} k u) h =
        let x = below u h.0 in
        let some = (in-operator d k).some x.label in
        record {
          label = some;
          made = record {
            source = x.label;
            there = x.shows;
            gives = acts-image (names d) o h.1 x.label some ((in-operator d k).becomes-some x.label);
          };
        }

  module _ (o : Order) (legal : Legal d o) (kinds : OfExactKinds d) where
    legal-at : (t : ℕ) → LegalTerm d t (term_at d t)
    legal-at = term-legal d o legal

    exact-at : (t : ℕ) → t < term_count d → ExactTerm (term_at d t)
    exact-at t l = kinds (term_at d t) (in-at d.terms t delta l)

    ends-below : (n t : ℕ) → t < n → t < term_count d → Ends t
    ends-below zero t h l = absurd (not-suc-le-zero h)
    ends-below (suc n) t h l =
        let below : (u : ℕ) → u < t → Ends u = λ u k. ends-below n u (omega arith) (omega arith) in
        let x = makes t below (exact-at t l) (legal-at t) in
        record { label = x.label; shows = shows-made t below refl (exact-at t l) (legal-at t) x.label x.made }

    -- So what the terms show meets the rules of the sets; past the last term there is nothing to show.
    shown-meets : Meets d (λ t. Shows (term t))
    shown-meets t a m =
        elim (dec_lt t (term_count d)) [
          | yes l ↦ shows-made t (λ u k. ends-below t u k (omega arith)) refl (exact-at t l) (legal-at t) a m
          | no h ↦ absurd
              (subst (λ (x : Term). OfShown x a) (get_or-eq_default d.terms delta (omega arith)) m)
        ]

    pub in_set→on_run : (a : Label) → InSet d d.root a → OnRun d a
    in_set→on_run a m =
        let x = up_to d (sets-least d (λ t. Shows (term t)) shown-meets d.root a m).passes in
        record { labels = x.labels; final = x.final; run = x.run; met = x.met }

-- The theorem: the root's set holds exactly the labels met on finite runs. An order cuts both alike, so that what is listed are
-- exactly those of them that it allows.
pub exact : (d : Description) (o : Order)
    → Legal d o
    → OfExactKinds d
    → (a : Label) → InSet d d.root a ↔ OnRun d a
exact d o legal kinds a = (in_set→on_run d o legal kinds a, on_run→in_set d o legal a)

pub exact-list : (d : Description) (o : Order) (rounds : ℕ) (labels : List Label)
    → Legal d o
    → OfExactKinds d
    → Lists d o rounds labels
    → (a : Label) → (a ∈ labels) ↔ (OnRun d a × Allows o a)
exact-list d o rounds labels legal kinds lists a =
    let same = exact d o legal kinds a in
    (λ m. let x = (lists.exactly a).0 m in (same.0 x.0, x.1), λ h. (lists.exactly a).1 (same.1 h.0, h.1))
