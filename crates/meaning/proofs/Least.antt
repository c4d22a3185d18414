-- The sets of terms are the least ones that meet the rules: a legal description's sets meet them, and they lie inside any that do.
-- Assumes nothing.
use mathlib.Core.Path.{◌≡◌, sym, ap, subst, ◌∙◌}
use mathlib.Core.Logic.{◌⊎◌, inl, inr, ◌↔◌}
use mathlib.Core.List.{List, [], ◌∷◌}
use Prim.Native.Nat.{ℕ, zero, suc, ◌+◌, ◌≤◌, ◌<◌}
use native.Mathlib.Nat.{not-suc-le-zero, add-zero, add-suc, zero-add, suc-add}
use native.Mathlib.Omega.{arith}
use native.Mathlib.Decide.{dec_lt}
use lib.ListN.{get_or, get_or-eq_default}
use Rattle.meaning.specs.Labels.{Label}
use Rattle.meaning.specs.Sets.{◌∈◌, at, ascending}
use Rattle.meaning.specs.Descriptions.{Term, act, tau, delta, ref, sum, cond, choice, ifelse, seq, merge, lmerge}
use Rattle.meaning.specs.Descriptions.{sync, wrap, Order, Description, term_count, term_at, body_at}
use Rattle.meaning.specs.Legal.{LegalTerm, LegalTerms, Legal}
use Rattle.meaning.specs.Rounds.{Shape, leaf, reference, one, either, both, joint, through, shape, made, worked, body_sets, next, round_sets, InSet}
use Rattle.meaning.specs.Rounds.{are_multi_actions}
use Rattle.meaning.specs.Regrouping.{Below}
use Rattle.meaning.proofs.Members.{Sum, in-ascending}
use Rattle.meaning.proofs.Shapes.{Family, Made, In, alike, in-made, in-made→, made-grows, made-same, same-below}
use Rattle.meaning.proofs.Actions.{Operands, below-sync}
use Rattle.meaning.proofs.Carried.{worked-earlier, worked-last, worked-past, against-last}
use Rattle.meaning.proofs.Growth.{rounds-grow, round-length, at_body}

-- A term of any number is legal: past the last there is nothing but deadlock.
terms-legal : (d : Description) (n : ℕ) (ts : List Term) → LegalTerms d n ts → (t : ℕ) → LegalTerm d (n + t) (get_or ts t delta)
terms-legal d n [] h t = tt
terms-legal d n (x ∷ ts) h zero = rw (add-zero n) h.0
terms-legal d n (x ∷ ts) h (suc t) = subst (λ (i : ℕ). LegalTerm d i (get_or ts t delta)) (suc-add n t ∙ sym (add-suc n t)) (terms-legal d (suc n) ts h.1 t)

pub term-legal : (d : Description) (o : Order) → Legal d o → (t : ℕ) → LegalTerm d t (term_at d t)
term-legal d o l t = subst (λ (i : ℕ). LegalTerm d i (term_at d t)) (zero-add t) (terms-legal d 0 d.terms l.terms t)

-- Operands have smaller numbers.
legal-below : (d : Description) (n : ℕ) (t : Term) → LegalTerm d n t → Below n (shape d t)
legal-below d n (act a) h = tt
legal-below d n tau h = tt
legal-below d n delta h = tt
legal-below d n (ref e) h = tt
legal-below d n (sum t) h = h
legal-below d n (cond t) h = h
legal-below d n (choice t u) h = h
legal-below d n (ifelse t u) h = h
legal-below d n (seq t u) h = h
legal-below d n (merge t u) h = h
legal-below d n (lmerge t u) h = h
legal-below d n (sync t u) h = below-sync n t u (are_multi_actions d t u) h
legal-below d n (wrap o t) h = h.0

pub legal-operands : (d : Description) (o : Order) → Legal d o → Operands d
legal-operands d o l n = legal-below d n (term_at d n) (term-legal d o l n)

-- So the pass over the terms makes the set of each of the sets that it ends with.
pub worked-is : (d : Description) → Operands d → (eqs : List (List Label)) (n i : ℕ) → i < n
    → at (worked d eqs n) i ≡ ascending (made eqs (worked d eqs n) (shape d (term_at d i)))
worked-is d first eqs zero i h = absurd (not-suc-le-zero h)
worked-is d first eqs (suc n) i h = meet (against-last i n) (worked-is d first eqs n i)
  where
    earlier : i ≤ n → made eqs (worked d eqs n) (shape d (term_at d i)) ≡ made eqs (worked d eqs (suc n)) (shape d (term_at d i))
    earlier l =
        made-same eqs eqs (worked d eqs n) (worked d eqs (suc n)) (shape d (term_at d i))
        (same-below eqs (worked d eqs n) (worked d eqs (suc n)) i (λ t b. sym (worked-earlier d eqs n t (omega arith))) (shape d (term_at d i)) (first i))

    meet : (i < n) ⊎ ((i ≡ n) ⊎ (suc n ≤ i)) → (i < n → at (worked d eqs n) i ≡ ascending (made eqs (worked d eqs n) (shape d (term_at d i))))
        → at (worked d eqs (suc n)) i ≡ ascending (made eqs (worked d eqs (suc n)) (shape d (term_at d i)))
    meet (inl l) ih = worked-earlier d eqs n i l ∙ ih l ∙ ap ascending (earlier (omega arith))
    meet (inr (inl e)) ih =
        subst (λ (j : ℕ). at (worked d eqs (suc n)) j ≡ ascending (made eqs (worked d eqs n) (shape d (term_at d j)))) (sym e) (worked-last d eqs n)
        ∙ ap ascending (earlier (omega arith))
    meet (inr (inr l)) ih = absurd (omega arith)

pub round_is : (d : Description) → Operands d → (eqs : List (List Label)) (i : ℕ)
    → at (worked d eqs (term_count d)) i ≡ ascending (made eqs (worked d eqs (term_count d)) (shape d (term_at d i)))
unfolding ascending
round_is d first eqs i =
    elim (dec_lt i (term_count d)) [
      | yes l ↦ worked-is d first eqs (term_count d) i l
      | no h ↦ worked-past d eqs (term_count d) i (omega arith)
          ∙ sym (ap (λ (t : Term). ascending (made eqs (worked d eqs (term_count d)) (shape d t))) (get_or-eq_default d.terms delta (omega arith)))
    ]

-- The rules, said of the sets of all terms together: what a term makes of its operands' sets and of the equations' is in its set.
abbrev pub Meets : Description → Family → Type 0
Meets d P = (t : ℕ) (a : Label) → Made (λ e b. P (body_at d e) b) P (shape d (term_at d t)) a → P t a

-- What is made of sets of all rounds is made in one round.
record Somewhere (d : Description) (s : Shape) (a : Label) : Type 0 where
  round : ℕ
  there : Made (λ e b. b ∈ at (round_sets d round) (body_at d e)) (In (round_sets d (suc round))) s a

later : (d : Description) (k : ℕ) {t : ℕ} {a : Label} (x : InSet d t a) → x.round ≤ suc k → a ∈ at (round_sets d (suc k)) t
later d k {t} {a} x h = rounds-grow d x.round (suc k) h t a x.there

together : (d : Description) (t u : ℕ) (a : Label) → Sum (InSet d t) (InSet d u) a → Somewhere d (joint t u) a
together d t u a x =
    let k = x.in_left.round + x.in_right.round in
    record {
      round = k;
      there = record {
        left = x.left;
        right = x.right;
        in_left = later d k x.in_left (omega arith);
        in_right = later d k x.in_right (omega arith);
        adds = x.adds;
      };
    }

somewhere : (d : Description) (s : Shape) (a : Label) → Made (λ e. InSet d (body_at d e)) (InSet d) s a → Somewhere d s a
somewhere d (leaf s) a m = record { round = 0; there = m }
somewhere d (reference e) a m = record { round = m.round; there = m.there }
somewhere d (one t) a m = record { round = m.round; there = later d m.round m (omega arith) }
somewhere d (either t u) a (inl m) = record { round = m.round; there = inl (later d m.round m (omega arith)) }
somewhere d (either t u) a (inr m) = record { round = m.round; there = inr (later d m.round m (omega arith)) }
somewhere d (both t u) a (inl (inl m)) = record { round = m.round; there = inl (inl (later d m.round m (omega arith))) }
somewhere d (both t u) a (inl (inr m)) = record { round = m.round; there = inl (inr (later d m.round m (omega arith))) }
somewhere d (both t u) a (inr m) = let x = together d t u a m in record { round = x.round; there = inr x.there }
somewhere d (joint t u) a m = together d t u a m
somewhere d (through f t) a m =
    record {
      round = m.there.round;
      there = record { source = m.source; there = later d m.there.round m.there (omega arith); gives = m.gives };
    }

pub sets-meet : (d : Description) (o : Order) → Legal d o → Meets d (InSet d)
unfolding round_sets next
sets-meet d o l t a m =
    let x = somewhere d (shape d (term_at d t)) a m in
    let k = x.round in
    let eqs = body_sets d (round_sets d k) in
    let sets = round_sets d (suc k) in
    record {
      round = suc k;
      there = rw (round_is d (legal-operands d o l) eqs t)
          ((in-ascending (made eqs sets (shape d (term_at d t))) a).1
          (in-made eqs sets (shape d (term_at d t)) a
          (made-grows (λ e b. b ∈ at (round_sets d k) (body_at d e)) (In sets) (In eqs) (In sets)
          (λ e b. subst (λ (s : List Label). b ∈ s) (sym (at_body d (round_sets d k) (round-length d k) e))) (λ i b n. n)
          (alike (shape d (term_at d t))) a x.there)));
    }

-- And they lie inside every family that meets the rules.
worked-least : (d : Description) (P : Family) → Meets d P → (eqs : List (List Label)) → ((e : ℕ) (a : Label) → a ∈ at eqs e → P (body_at d e) a)
    → (n i : ℕ) (a : Label) → a ∈ at (worked d eqs n) i → P i a
unfolding worked
worked-least d P meets eqs h zero i a m = absurd m
worked-least d P meets eqs h (suc n) i a m = least (against-last i n) (worked-least d P meets eqs h n)
  where
    least : (i < n) ⊎ ((i ≡ n) ⊎ (suc n ≤ i)) → ((j : ℕ) (b : Label) → b ∈ at (worked d eqs n) j → P j b) → P i a
    least (inl l) ih = ih i a (subst (λ (s : List Label). a ∈ s) (worked-earlier d eqs n i l) m)
    least (inr (inl e)) ih =
        meets i a
        (subst (λ (j : ℕ). Made (λ x b. P (body_at d x) b) P (shape d (term_at d j)) a) (sym e)
        (made-grows (In eqs) (In (worked d eqs n)) (λ x b. P (body_at d x) b) P h ih (alike (shape d (term_at d n))) a
        (in-made→ eqs (worked d eqs n) (shape d (term_at d n)) a
        ((in-ascending (made eqs (worked d eqs n) (shape d (term_at d n))) a).0
        (subst (λ (s : List Label). a ∈ s) (worked-last d eqs n) (subst (λ (j : ℕ). a ∈ at (worked d eqs (suc n)) j) e m))))))
    least (inr (inr l)) ih = absurd (subst (λ (s : List Label). a ∈ s) (worked-past d eqs (suc n) i l) m)

rounds-least : (d : Description) (P : Family) → Meets d P → (k t : ℕ) (a : Label) → a ∈ at (round_sets d k) t → P t a
unfolding round_sets next
rounds-least d P meets zero t a m = absurd m
rounds-least d P meets (suc k) t a m =
    worked-least d P meets (body_sets d (round_sets d k))
    (λ e b n. rounds-least d P meets k (body_at d e) b (subst (λ (s : List Label). b ∈ s) (at_body d (round_sets d k) (round-length d k) e) n))
    (term_count d) t a m

pub sets-least : (d : Description) (P : Family) → Meets d P → (t : ℕ) (a : Label) → InSet d t a → P t a
sets-least d P meets t a x = rounds-least d P meets x.round t a x.there

-- Lines whose sets are the same in every round have the same least set.
pub same-least : (d d' : Description) (t t' : ℕ) → ((k : ℕ) → at (round_sets d k) t ≡ at (round_sets d' k) t') → (a : Label)
    → InSet d t a ↔ InSet d' t' a
same-least d d' t t' same a = (
  λ x. record { round = x.round; there = subst (λ (s : List Label). a ∈ s) (same x.round) x.there },
  λ x. record { round = x.round; there = subst (λ (s : List Label). a ∈ s) (sym (same x.round)) x.there },
)
