-- The computed test of the exact kinds is the definition.
-- Assumes nothing.
use mathlib.Core.Path.{refl, sym, subst}
use mathlib.Core.Logic.{inl, inr, ◌↔◌}
use mathlib.Core.List.{List, [], ◌∷◌}
use lib.Dec.{T}
use Rattle.meaning.specs.Sets.{◌∈◌}
use Rattle.meaning.specs.Descriptions.{Operator, block, hide, rename, comm, allow, Term, act, tau, delta, ref, sum, cond, choice, ifelse}
use Rattle.meaning.specs.Descriptions.{seq, merge, lmerge, sync, wrap, Description}
use Rattle.meaning.specs.Exact.{ExactOperator, a-hide, a-rename, a-comm, ExactTerm, an-act, a-tau, a_sum, a-cond, a-choice, an-ifelse, a-seq, a-merge}
use Rattle.meaning.specs.Exact.{an-operator, OfExactKinds, is_exact_operator, is_exact_term, are_exact_terms}
use Rattle.meaning.proofs.Tests.{and_left, and_right, and_both}

test→operator : (o : Operator) → T (is_exact_operator o) → ExactOperator o
test→operator (block ns) h = absurd h
test→operator (hide ns) h = a-hide ns
test→operator (rename ps) h = a-rename ps
test→operator (comm rs) h = a-comm rs
test→operator (allow ls) h = absurd h

operator→test : {o : Operator} → ExactOperator o → T (is_exact_operator o)
operator→test (a-hide ns) = tt
operator→test (a-rename ps) = tt
operator→test (a-comm rs) = tt

test→kind : (t : Term) → T (is_exact_term t) → ExactTerm t
test→kind (act a) h = an-act a
test→kind tau h = a-tau
test→kind delta h = absurd h
test→kind (ref e) h = absurd h
test→kind (sum t) h = a_sum t
test→kind (cond t) h = a-cond t
test→kind (choice t u) h = a-choice t u
test→kind (ifelse t u) h = an-ifelse t u
test→kind (seq t u) h = a-seq t u
test→kind (merge t u) h = a-merge t u
test→kind (lmerge t u) h = absurd h
test→kind (sync t u) h = absurd h
test→kind (wrap o t) h = an-operator (test→operator o h) t

kind→test : {t : Term} → ExactTerm t → T (is_exact_term t)
kind→test (an-act a) = tt
kind→test a-tau = tt
kind→test (a_sum t) = tt
kind→test (a-cond t) = tt
kind→test (a-choice t u) = tt
kind→test (an-ifelse t u) = tt
kind→test (a-seq t u) = tt
kind→test (a-merge t u) = tt
kind→test (an-operator k t) = operator→test k

tests→kinds : (ts : List Term) → T (are_exact_terms ts) → (t : Term) → t ∈ ts → ExactTerm t
unfolding are_exact_terms
tests→kinds (x ∷ ts) h t (inl e) = subst ExactTerm (sym e) (test→kind x (and_left (is_exact_term x) (are_exact_terms ts) h))
tests→kinds [] h t x'' = elim x'' [ ]
tests→kinds (x ∷ ts) h t (inr m) = tests→kinds ts (and_right (is_exact_term x) (are_exact_terms ts) h) t m

kinds→tests : (ts : List Term) → ((t : Term) → t ∈ ts → ExactTerm t) → T (are_exact_terms ts)
unfolding are_exact_terms
kinds→tests [] h = tt
kinds→tests (x ∷ ts) h =
    and_both (is_exact_term x) (are_exact_terms ts) (kind→test (h x (inl refl))) (kinds→tests ts (λ t m. h t (inr m)))

pub exact-tested : (d : Description) → T (are_exact_terms d.terms) ↔ OfExactKinds d
exact-tested d = (tests→kinds d.terms, kinds→tests d.terms)
