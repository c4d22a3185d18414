-- A computed test of legality, and that it is equivalent to legality.
-- Assumes nothing.
use mathlib.Core.Logic.Dec
use mathlib.Core.Logic.{◌↔◌}
use mathlib.Core.Bool.{Bool, true, false}
use mathlib.Core.List.{List, [], ◌∷◌, map}
use Prim.Native.Nat.{ℕ, suc, ◌≤◌, ◌<◌}
use native.Mathlib.Decide.{dec_le, dec_lt, ℕ_discrete}
use lib.Dec.{T}
use lib.ListN.{length}
use Rattle.meaning.specs.Labels.{Label, size, number}
use Rattle.meaning.specs.Sets.{Above, Rising}
use Rattle.meaning.specs.Descriptions.{Pair, Rule, Operator, block, hide, rename, comm, allow, Term, act, tau, delta, ref, sum, cond, choice, ifelse, seq}
use Rattle.meaning.specs.Descriptions.{merge, lmerge, sync, wrap, Order, all, only, Description, names, term_count, equations}
use Rattle.meaning.specs.Legal.{Each, LegalLabel, LegalNames, LegalPair, LegalRule, LegalLabels, LegalOperator}
use Rattle.meaning.specs.Legal.{LegalTwo, LegalTerm, LegalTerms, LegalOrder, Legal}

three : {A B C : Type 0} → Dec A → Dec B → Dec C → Dec (A × B × C)
three (yes a) (yes b) (yes c) = yes (a, b, c)
three (no n) b c = no (λ x. n x.0)
three (yes a) (no n) c = no (λ x. n x.1)
three (yes a) (yes b) (no n) = no (λ x. n x.2)

four : {A B C D : Type 0} → Dec A → Dec B → Dec C → Dec D → Dec (A × B × C × D)
four a b c (yes e) = elim (three a b c) [ yes x ↦ yes (x.0, x.1, x.2, e) | no n ↦ no (λ x. n (x.0, x.1, x.2)) ]
four a b c (no n) = no (λ x. n x.3)

dec-each : {A : Type 0} (P : A → Type 0) → ((x : A) → Dec (P x)) → (xs : List A) → Dec (Each P xs)
dec-each P f [] = yes tt
dec-each P f (x ∷ xs) = Dec.and (f x) (dec-each P f xs)

dec-above : (x : ℕ) (xs : List ℕ) → Dec (Above x xs)
dec-above x [] = yes tt
dec-above x (y ∷ ys) = dec_lt x y

dec-rising : (xs : List ℕ) → Dec (Rising xs)
dec-rising [] = yes tt
dec-rising (x ∷ xs) = Dec.and (dec-above x xs) (dec-rising xs)

dec-label : (n : ℕ) (a : Label) → Dec (LegalLabel n a)
dec-label n a = three (ℕ_discrete (length a) n) (dec_le 1 (size a)) (dec_le (size a) 31)

dec-names : (n : ℕ) (ns : List ℕ) → Dec (LegalNames n ns)
dec-names n ns = three (dec_le 1 (length ns)) (dec-each (λ x. x < n) (λ x. dec_lt x n) ns) (dec-rising ns)

dec-pair : (n : ℕ) (p : Pair) → Dec (LegalPair n p)
dec-pair n p = Dec.and (dec_lt p.left n) (dec_lt p.right n)

dec-rule : (n : ℕ) (r : Rule) → Dec (LegalRule n r)
dec-rule n r = three (dec-label n r.left) (dec_le 2 (size r.left)) (dec_lt r.right n)

dec-labels : (n : ℕ) (ls : List Label) → Dec (LegalLabels n ls)
dec-labels n ls = three (dec_le (length ls) 32) (dec-each (LegalLabel n) (dec-label n) ls) (dec-rising (map number ls))

dec-operator : (n : ℕ) (o : Operator) → Dec (LegalOperator n o)
dec-operator n (block ns) = dec-names n ns
dec-operator n (hide ns) = dec-names n ns
dec-operator n (rename ps) = three (dec_le 1 (length ps)) (dec-each (LegalPair n) (dec-pair n) ps) (dec-rising (map (λ p. p.left) ps))
dec-operator n (comm rs) =
    four (dec_le 1 (length rs)) (dec_le (length rs) 8) (dec-each (LegalRule n) (dec-rule n) rs) (dec-rising (map (λ r. number r.left) rs))
dec-operator n (allow ls) = dec-labels n ls

dec-two : (n t u : ℕ) → Dec (LegalTwo n t u)
dec-two n t u = Dec.and (dec_lt t n) (dec_lt u n)

dec-term : (d : Description) (n : ℕ) (t : Term) → Dec (LegalTerm d n t)
dec-term d n (act a) = dec_lt a (names d)
dec-term d n tau = yes tt
dec-term d n delta = yes tt
dec-term d n (ref e) = dec_lt e (equations d)
dec-term d n (sum t) = dec_lt t n
dec-term d n (cond t) = dec_lt t n
dec-term d n (choice t u) = dec-two n t u
dec-term d n (ifelse t u) = dec-two n t u
dec-term d n (seq t u) = dec-two n t u
dec-term d n (merge t u) = dec-two n t u
dec-term d n (lmerge t u) = dec-two n t u
dec-term d n (sync t u) = dec-two n t u
dec-term d n (wrap o t) = Dec.and (dec_lt t n) (dec-operator (names d) o)

dec-terms : (d : Description) (n : ℕ) (ts : List Term) → Dec (LegalTerms d n ts)
dec-terms d n [] = yes tt
dec-terms d n (t ∷ ts) = Dec.and (dec-term d n t) (dec-terms d (suc n) ts)

dec-order : (n : ℕ) (o : Order) → Dec (LegalOrder n o)
dec-order n all = yes tt
dec-order n (only ls) = dec-labels n ls

dec-counts : (d : Description) → Dec (((1 ≤ names d) × (names d ≤ 24)) × (equations d ≤ 16) × ((1 ≤ term_count d) × (term_count d ≤ 96)))
dec-counts d =
    three (Dec.and (dec_le 1 (names d)) (dec_le (names d) 24)) (dec_le (equations d) 16) (Dec.and (dec_le 1 (term_count d)) (dec_le (term_count d) 96))

unfoldable pub legal? : (d : Description) (o : Order) → Dec (Legal d o)
unfolding three four dec-each dec-above dec-rising dec-label dec-names dec-pair dec-rule dec-labels
    dec-operator dec-two dec-term dec-terms dec-order dec-counts
legal? d o =
    elim (three (dec-counts d) (dec-terms d 0 d.terms)
    (three (dec-each (λ b. b < term_count d) (λ b. dec_lt b (term_count d)) d.bodies) (dec_lt d.root (term_count d)) (dec-order (names d) o))) [
      | yes x ↦ yes (record {
        name_count = x.0.0;
        equation_count = x.0.1;
        terms_count = x.0.2;
        terms = x.1;
        bodies = x.2.0;
        root = x.2.1;
        order = x.2.2;
      })
      | no n ↦ no (λ l. n ((l.name_count, l.equation_count, l.terms_count), l.terms, (l.bodies, l.root, l.order)))
    ]

abbrev pub passed : {A : Type 0} → Dec A → Bool
passed (yes a) = true
passed (no n) = false

-- The test, and that it is right.
unfoldable pub legal_test : Description → Order → Bool
unfolding legal?
legal_test d o = passed (legal? d o)

passed-right : {A : Type 0} (x : Dec A) → T (passed x) ↔ A
passed-right (yes a) = (λ t. a, λ h. tt)
passed-right (no n) = (λ t. absurd t, λ h. n h)

pub legal-tested : (d : Description) (o : Order) → T (legal_test d o) ↔ Legal d o
unfolding legal_test
legal-tested d o = passed-right (legal? d o)
