-- Which descriptions list no more than their runs show (docs/EXACT.md).
-- Assumes nothing.
use Rattle.std.specs.Prelude.{Bool, true, false, ◌&&◌, List, [], ◌∷◌, ℕ}
use Rattle.meaning.specs.Sets.{◌∈◌}
use Rattle.meaning.specs.Descriptions.{Pair, Rule, Operator, block, hide, rename, comm, allow, Term, act, tau, delta, ref, sum, cond, choice, ifelse}
use Rattle.meaning.specs.Descriptions.{seq, merge, lmerge, sync, wrap, Description}

-- The kinds named: act, tau, sum, cond, choice, ifelse, seq, merge, hide, rename and comm.
pub data ExactOperator : Operator → Type 0 where
  a-hide : (ns : List ℕ) → ExactOperator (hide ns)
  a-rename : (ps : List Pair) → ExactOperator (rename ps)
  a-comm : (rs : List Rule) → ExactOperator (comm rs)

pub data ExactTerm : Term → Type 0 where
  an-act : (a : ℕ) → ExactTerm (act a)
  a-tau : ExactTerm tau
  a_sum : (t : ℕ) → ExactTerm (sum t)
  a-cond : (t : ℕ) → ExactTerm (cond t)
  a-choice : (t u : ℕ) → ExactTerm (choice t u)
  an-ifelse : (t u : ℕ) → ExactTerm (ifelse t u)
  a-seq : (t u : ℕ) → ExactTerm (seq t u)
  a-merge : (t u : ℕ) → ExactTerm (merge t u)
  an-operator : {o : Operator} → ExactOperator o → (t : ℕ) → ExactTerm (wrap o t)

-- Every term of the table is of them.
abbrev pub OfExactKinds : Description → Type 0
OfExactKinds d = (t : Term) → t ∈ d.terms → ExactTerm t

-- The same as a test.
abbrev pub is_exact_operator : Operator → Bool
is_exact_operator (block ns) = false
is_exact_operator (hide ns) = true
is_exact_operator (rename ps) = true
is_exact_operator (comm rs) = true
is_exact_operator (allow ls) = false

abbrev pub is_exact_term : Term → Bool
is_exact_term (act a) = true
is_exact_term tau = true
is_exact_term delta = false
is_exact_term (ref e) = false
is_exact_term (sum t) = true
is_exact_term (cond t) = true
is_exact_term (choice t u) = true
is_exact_term (ifelse t u) = true
is_exact_term (seq t u) = true
is_exact_term (merge t u) = true
is_exact_term (lmerge t u) = false
is_exact_term (sync t u) = false
is_exact_term (wrap o t) = is_exact_operator o

unfoldable pub are_exact_terms : List Term → Bool
are_exact_terms [] = true
are_exact_terms (t ∷ ts) = is_exact_term t && are_exact_terms ts
