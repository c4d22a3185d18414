-- Legal descriptions: what refusals 4 and 5 leave, with every name known and every count in range (docs/FORMAT.md,
-- "The lines" and "The lists").
-- Assumes nothing.
use Rattle.std.specs.Prelude.{◌≡◌, List, [], ◌∷◌, map, ℕ, suc, ◌≤◌, ◌<◌, length}
use Rattle.meaning.specs.Labels.{Label, size, number}
use Rattle.meaning.specs.Sets.{Rising}
use Rattle.meaning.specs.Descriptions.{Pair, Rule, Operator, block, hide, rename, comm, allow, Term, act, tau, delta, ref, sum, cond, choice, ifelse, seq}
use Rattle.meaning.specs.Descriptions.{merge, lmerge, sync, wrap, Order, all, only, Description, names, term_count, equations}

abbrev pub Each : {A : Type 0} → (A → Type 0) → List A → Type 0
Each P [] = Unit {0}
Each P (x ∷ xs) = P x × Each P xs

-- A label as it is read: a count for each name, from 1 to 31 actions in all.
abbrev pub LegalLabel : ℕ → Label → Type 0
LegalLabel names a = (length a ≡ names) × (1 ≤ size a) × (size a ≤ 31)

-- The lists: not empty (LABELS may be), strictly ascending, at most 8 rules and 32 labels.
abbrev pub LegalNames : ℕ → List ℕ → Type 0
LegalNames names ns = (1 ≤ length ns) × Each (λ n. n < names) ns × Rising ns

abbrev pub LegalPair : ℕ → Pair → Type 0
LegalPair names p = (p.left < names) × (p.right < names)

abbrev pub LegalPairs : ℕ → List Pair → Type 0
LegalPairs names ps = (1 ≤ length ps) × Each (LegalPair names) ps × Rising (map (λ p. p.left) ps)

abbrev pub LegalRule : ℕ → Rule → Type 0
LegalRule names r = LegalLabel names r.left × (2 ≤ size r.left) × (r.right < names)

abbrev pub LegalRules : ℕ → List Rule → Type 0
LegalRules names rs = (1 ≤ length rs) × (length rs ≤ 8) × Each (LegalRule names) rs × Rising (map (λ r. number r.left) rs)

abbrev pub LegalLabels : ℕ → List Label → Type 0
LegalLabels names ls = (length ls ≤ 32) × Each (LegalLabel names) ls × Rising (map number ls)

abbrev pub LegalOperator : ℕ → Operator → Type 0
LegalOperator names (block ns) = LegalNames names ns
LegalOperator names (hide ns) = LegalNames names ns
LegalOperator names (rename ps) = LegalPairs names ps
LegalOperator names (comm rs) = LegalRules names rs
LegalOperator names (allow ls) = LegalLabels names ls

-- A term at its number: operands have smaller numbers.
abbrev pub LegalTwo : ℕ → ℕ → ℕ → Type 0
LegalTwo n t u = (t < n) × (u < n)

abbrev pub LegalTerm : Description → ℕ → Term → Type 0
LegalTerm d n (act a) = a < names d
LegalTerm d n tau = Unit {0}
LegalTerm d n delta = Unit {0}
LegalTerm d n (ref e) = e < equations d
LegalTerm d n (sum t) = t < n
LegalTerm d n (cond t) = t < n
LegalTerm d n (choice t u) = LegalTwo n t u
LegalTerm d n (ifelse t u) = LegalTwo n t u
LegalTerm d n (seq t u) = LegalTwo n t u
LegalTerm d n (merge t u) = LegalTwo n t u
LegalTerm d n (lmerge t u) = LegalTwo n t u
LegalTerm d n (sync t u) = LegalTwo n t u
LegalTerm d n (wrap o t) = (t < n) × LegalOperator (names d) o

-- the terms, numbered from n on
abbrev pub LegalTerms : Description → ℕ → List Term → Type 0
LegalTerms d n [] = Unit {0}
LegalTerms d n (t ∷ ts) = LegalTerm d n t × LegalTerms d (suc n) ts

abbrev pub LegalOrder : ℕ → Order → Type 0
LegalOrder names all = Unit {0}
LegalOrder names (only ls) = LegalLabels names ls

pub record Legal (d : Description) (o : Order) : Type 0 where
  pub name_count : (1 ≤ names d) × (names d ≤ 24)
  pub equation_count : equations d ≤ 16
  pub terms_count : (1 ≤ term_count d) × (term_count d ≤ 96)
  pub terms : LegalTerms d 0 d.terms
  pub bodies : Each (λ b. b < term_count d) d.bodies
  pub root : d.root < term_count d
  pub order : LegalOrder (names d) o
