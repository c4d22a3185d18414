-- Allow lists and blocked names as filters of labels: what each passes, and what two of a kind pass in a row.
-- Assumes nothing.
use mathlib.Core.Path.{◌≡◌, refl}
use mathlib.Core.Logic.{◌⊎◌, inl, inr, ◌↔◌}
use mathlib.Core.List.{List, [], ◌∷◌}
use Prim.Native.Nat.{ℕ}
use native.Mathlib.Omega.{arith}
use lib.Dec.{T, eqb, eqb→eq, eqb_refl}
use Rattle.meaning.specs.Labels.{Label, count, size, is_tau, plus, clear}
use Rattle.meaning.specs.Sets.{◌∈◌, member}
use Rattle.meaning.specs.Rounds.{allowed}
use Rattle.meaning.specs.Laws.{Union, Common}
use Rattle.meaning.proofs.Tests.{and_left, and_right, and_both, or_cases, or_right}
use Rattle.meaning.proofs.Bags.{count-plus}
use Rattle.meaning.proofs.Members.{member→in, in→member}

-- Tau passes every allow list, a label passes where it is listed, and nothing else passes.
pub tau-allowed : (ls : List Label) (a : Label) → size a ≡ 0 → T (allowed ls a)
unfolding allowed is_tau
tau-allowed ls a e = rw e tt

listed-allowed : (ls : List Label) (a : Label) → a ∈ ls → T (allowed ls a)
unfolding allowed is_tau
listed-allowed ls a m = or_right (eqb (size a) 0) (member a ls) (in→member a ls m)

pub →allowed : (ls : List Label) (a : Label) → (a ∈ ls) ⊎ (size a ≡ 0) → T (allowed ls a)
→allowed ls a (inl m) = listed-allowed ls a m
→allowed ls a (inr e) = tau-allowed ls a e

pub allowed→ : (ls : List Label) (a : Label) → T (allowed ls a) → (a ∈ ls) ⊎ (size a ≡ 0)
unfolding allowed is_tau
allowed→ ls a t = elim (or_cases (eqb (size a) 0) (member a ls) t) [ inl h ↦ inr (eqb→eq (size a) 0 h) | inr h ↦ inl (member→in a ls h) ]

-- Two lists pass what both list, and tau.
passed-by-both : (ls ms ks : List Label) → Common ls ms ks → (a : Label) → (a ∈ ls) ⊎ (size a ≡ 0) → (a ∈ ms) ⊎ (size a ≡ 0) → T (allowed ks a)
passed-by-both ls ms ks c a (inl m) (inl n) = listed-allowed ks a ((c a).1 (m, n))
passed-by-both ls ms ks c a (inl m) (inr e) = tau-allowed ks a e
passed-by-both ls ms ks c a (inr e) y = tau-allowed ks a e

pub allowed-common : (ls ms ks : List Label) → Common ls ms ks → (a : Label) → T (allowed ks a) ↔ (T (allowed ls a) × T (allowed ms a))
allowed-common ls ms ks c a = (
  λ t. elim (allowed→ ks a t) [
    | inl m ↦ (listed-allowed ls a ((c a).0 m).0, listed-allowed ms a ((c a).0 m).1)
    | inr e ↦ (tau-allowed ls a e, tau-allowed ms a e)
  ],
  λ t. passed-by-both ls ms ks c a (allowed→ ls a t.0) (allowed→ ms a t.1),
)

-- A label passes blocked names where each of them counts 0.
pub clear→zero : (ns : List ℕ) (a : Label) → T (clear ns a) → (n : ℕ) → n ∈ ns → count a n ≡ 0
unfolding clear
clear→zero (m ∷ ns) a t n (inl e) = rw e (eqb→eq (count a m) 0 (and_left (eqb (count a m) 0) _ t))
clear→zero [] a t n x'' = elim x'' [ ]
clear→zero (m ∷ ns) a t n (inr k) = clear→zero ns a (and_right (eqb (count a m) 0) _ t) n k

pub zero→clear : (ns : List ℕ) (a : Label) → ((n : ℕ) → n ∈ ns → count a n ≡ 0) → T (clear ns a)
unfolding clear
zero→clear [] a h = tt
zero→clear (m ∷ ns) a h =
    and_both (eqb (count a m) 0) (clear ns a) (rw (h m (inl refl)) (eqb_refl 0)) (zero→clear ns a (λ n k. h n (inr k)))

-- Two lists pass what is clear of the names of both.
pub clear-union : (ns ms ks : List ℕ) → Union ns ms ks → (a : Label) → T (clear ks a) ↔ (T (clear ns a) × T (clear ms a))
clear-union ns ms ks u a = (
  λ t. (zero→clear ns a (λ n m. clear→zero ks a t n ((u n).1 (inl m))), zero→clear ms a (λ n m. clear→zero ks a t n ((u n).1 (inr m)))),
  λ t. zero→clear ks a (λ n m. elim ((u n).0 m) [ inl k ↦ clear→zero ns a t.0 n k | inr k ↦ clear→zero ms a t.1 n k ]),
)

-- A sum is clear where both labels are.
pub clear-plus : (ns : List ℕ) (a b : Label) → T (clear ns (plus a b)) ↔ (T (clear ns a) × T (clear ns b))
clear-plus ns a b = (
  λ t. (
    zero→clear ns a (λ n m. let e = clear→zero ns (plus a b) t n m in omega (arith, count-plus a b n)),
    zero→clear ns b (λ n m. let e = clear→zero ns (plus a b) t n m in omega (arith, count-plus a b n)),
  ),
  λ t. zero→clear ns (plus a b) (λ n m.
      let e = clear→zero ns a t.0 n m in let g = clear→zero ns b t.1 n m in omega (arith, count-plus a b n)),
)
