-- The pair law-hide-over-merge of examples/ is a regrouping: lines are added, one line is regrouped, and the line that nothing
-- names any more is left out.
-- Assumes nothing.
use mathlib.Core.Path.{◌≡◌, refl, sym, subst}
use mathlib.Core.Logic.Dec
use mathlib.Core.List.{List, [], ◌∷◌, map}
use Prim.Native.Nat.{ℕ, zero, suc, ◌<◌}
use native.Mathlib.Decide.{dec_le, dec_lt, ℕ_discrete}
use native.Mathlib.Omega.{arith}
use lib.Dec.{T}
use lib.ListN.{get_or}
use Rattle.meaning.specs.Bytes.{ascii}
use Rattle.meaning.specs.Labels.{size, number}
use Rattle.meaning.specs.Descriptions.{hide, Term, act, seq, merge, wrap, all, Description, term_count, term_at}
use Rattle.meaning.specs.Laws.{hides}
use Rattle.meaning.specs.Regrouping.{over-merge, spread-out, rewritten, moved, Placed, Extends, Regrouped, rewrite, extend, back, onward}
use Rattle.meaning.proofs.Legality.{legal?, legal_test, legal-tested}
use Rattle.meaning.proofs.Regrouping.{legal-placed}

-- a die that starts and reports done, beside a host that closes
abbrev described : List Term → ℕ → Description
described more root =
    record {
      words = ascii "start" ∷ ascii "done" ∷ ascii "close" ∷ [];
      terms = act 0 ∷ act 1 ∷ seq 0 1 ∷ act 2 ∷ more;
      bodies = [];
      root = root;
    }

abbrev pub before : Description
before = described (merge 2 3 ∷ wrap (hide (0 ∷ [])) 4 ∷ []) 5

abbrev pub after : Description
after = described (wrap (hide (0 ∷ [])) 2 ∷ wrap (hide (0 ∷ [])) 3 ∷ merge 4 5 ∷ []) 6

-- with the lines of both, in either form
abbrev hidden-once : Description
hidden-once = described (merge 2 3 ∷ wrap (hide (0 ∷ [])) 2 ∷ wrap (hide (0 ∷ [])) 3 ∷ wrap (hide (0 ∷ [])) 4 ∷ []) 7

abbrev hidden-apart : Description
hidden-apart = rewritten hidden-once 7 (merge 5 6)

placed-if : (d : Description) → T (legal_test d all) → Placed d
placed-if d t = legal-placed d all ((legal-tested d all).0 t)

each_placed : Placed before × Placed hidden-once × Placed hidden-apart × Placed after
unfolding legal_test legal? dec_le dec_lt ℕ_discrete Dec.and number size
each_placed = (placed-if before tt, placed-if hidden-once tt, placed-if hidden-apart tt, placed-if after tt)

-- what holds of each number below another, one by one
abbrev Numbers : (ℕ → Type 0) → ℕ → Type 0
Numbers P zero = Unit {0}
Numbers P (suc m) = Numbers P m × P m

each_number : (P : ℕ → Type 0) (m : ℕ) → Numbers P m → (n : ℕ) → n < m → P n
each_number P zero h n l = absurd (omega arith)
each_number P (suc m) h n l =
    elim (ℕ_discrete n m) [ yes e ↦ subst P (sym e) h.1 | no d ↦ each_number P m h.0 n (omega arith) ]

-- where the lines of one stand in the other
extends : (d d' : Description) (places : List ℕ) → d.words ≡ d'.words → d'.bodies ≡ map (λ n. get_or places n 0) d.bodies
    → d'.root ≡ get_or places d.root 0
    → Numbers (λ n. term_at d' (get_or places n 0) ≡ moved (λ i. get_or places i 0) (term_at d n)) (term_count d) → Extends d d'
extends d d' places w b r lines = record { place = λ n. get_or places n 0; words = w; lines = each_number _ (term_count d) lines; bodies = b; root = r }

pub hide-over-merge : Regrouped before after
hide-over-merge =
    onward (extend each_placed.0 each_placed.1 (extends before hidden-once (0 ∷ 1 ∷ 2 ∷ 3 ∷ 4 ∷ 7 ∷ []) refl refl refl
    ((((((tt, refl), refl), refl), refl), refl), refl)))
    (onward (rewrite 7 (merge 5 6) each_placed.1 each_placed.2 (omega arith) (spread-out (over-merge (hides (0 ∷ []))) refl refl refl))
    (back (extend each_placed.3 each_placed.2 (extends after hidden-apart (0 ∷ 1 ∷ 2 ∷ 3 ∷ 5 ∷ 6 ∷ 7 ∷ []) refl refl refl
    (((((((tt, refl), refl), refl), refl), refl), refl), refl)))))
