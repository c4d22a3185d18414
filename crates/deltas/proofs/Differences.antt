-- The labels of a list that another does not have.
-- Assumes nothing.
use mathlib.Core.Path.{◌≡◌, refl, ap, ◌∙◌}
use mathlib.Core.Logic.{◌⊎◌, inl, inr, ◌↔◌}
use mathlib.Core.Bool.{Bool, true, false, not}
use mathlib.Core.List.{List, [], ◌∷◌, ◌++◌}
use Prim.Native.Nat.{◌+◌}
use native.Mathlib.Omega.{arith}
use lib.Dec.{T_not, not_T}
use lib.ListN.{length}
use Rattle.meaning.specs.Labels.{Label}
use Rattle.meaning.specs.Sets.{◌∈◌, member, ascending, spread, kept, keep}
use Rattle.meaning.proofs.Tests.{decided-by}
use Rattle.meaning.proofs.Ascent.{Within}
use Rattle.meaning.proofs.Members.{Ascending, in-filter, member→in, in→member, in-ascending, ascending-ascends, ascending-unique}
use Rattle.deltas.specs.Deltas.{less_labels}

pub in-less : (N L : List Label) (a : Label) → (a ∈ less_labels N L) ↔ ((a ∈ N) × (a ∈ L → ⊥))
in-less N L a = (
  λ m. let x = (in-filter (λ b. not (member b L)) N a).0 m in (x.0, λ k. T_not (member a L) x.1 (in→member a L k)),
  λ h. (in-filter (λ b. not (member b L)) N a).1 (h.0, not_T (member a L) (λ t. h.1 (member→in a L t))),
)

pub less-or-known : (N L : List Label) (a : Label) → a ∈ N → (a ∈ less_labels N L) ⊎ (a ∈ L)
less-or-known N L a m = elim (decided-by (member a L)) [
  | inl t ↦ inr (member→in a L t)
  | inr f ↦ inl ((in-less N L a).1 (m, λ k. f (in→member a L k)))
]

-- What is filtered stays in order; an ascending list is in order already.
pub filter-ascends : (test : Label → Bool) (s : List Label) → Ascending s → Ascending (spread (keep test) s)
unfolding spread
filter-ascends test [] up = tt
filter-ascends test (a ∷ s) up = go (test a) (filter-ascends test s up.1)
  where
    go : (t : Bool) → Ascending (spread (keep test) s) → Ascending (kept t a ++ spread (keep test) s)
    go true more = (λ b m. up.0 b ((in-filter test s b).0 m).0, more)
    go false more = more

pub less-ascends : (N L : List Label) → Ascending N → Ascending (less_labels N L)
less-ascends N L up = filter-ascends (λ a. not (member a L)) N up

pub ascending-itself : (s : List Label) → Ascending s → ascending s ≡ s
ascending-itself s up =
    ascending-unique (ascending s) s (ascending-ascends s) up (λ a m. (in-ascending s a).0 m) (λ a m. (in-ascending s a).1 m)

-- Labels that make a newer list of an older one: they are labels of the newer, and all that it has besides the older. They may be
-- labels of the older as well.
pub record Adds (R L N : List Label) : Type 0 where
  pub there : Within R N
  pub back : (a : Label) → a ∈ N → (a ∈ R) ⊎ (a ∈ L)
  pub within : Within L N

pub adds_same : (R R' L N : List Label) → Within R R' → Within R' R → Adds R L N → Adds R' L N
adds_same R R' L N w v x = record {
  there = λ a m. x.there a (v a m);
  back = λ a m. elim (x.back a m) [ inl k ↦ inl (w a k) | inr k ↦ inr k ];
  within = x.within;
}

-- so that those of them which the older does not have are those which the newer has more
pub adds-less : (R L N : List Label) → Adds R L N → less_labels (ascending R) L ≡ less_labels (ascending N) L
adds-less R L N x =
    ascending-unique (less_labels (ascending R) L) (less_labels (ascending N) L) (less-ascends (ascending R) L (ascending-ascends R))
    (less-ascends (ascending N) L (ascending-ascends N))
    (λ a m. let y = (in-less (ascending R) L a).0 m in
    (in-less (ascending N) L a).1 ((in-ascending N a).1 (x.there a ((in-ascending R a).0 y.0)), y.1))
    (λ a m. let y = (in-less (ascending N) L a).0 m in
    elim (x.back a ((in-ascending N a).0 y.0)) [
      | inl k ↦ (in-less (ascending R) L a).1 ((in-ascending R a).1 k, y.1)
      | inr k ↦ absurd (y.1 k)
    ])

-- A filter and its opposite part a list in two.
parted : (test : Label → Bool) (s : List Label) → length s ≡ length (spread (keep test) s) + length (spread (keep (λ a. not (test a))) s)
unfolding spread
parted test [] = refl
parted test (a ∷ s) = go (test a) (parted test s)
  where
    go : (t : Bool) → length s ≡ length (spread (keep test) s) + length (spread (keep (λ b. not (test b))) s)
        → length (a ∷ s) ≡ length (kept t a ++ spread (keep test) s) + length (kept (not t) a ++ spread (keep (λ b. not (test b))) s)
    go true e = omega arith
    go false e = omega arith

module _ (L N : List Label) (up : Ascending L) (also : Ascending N) (w : Within L N) where
  known_kept : spread (keep (λ a. member a L)) N ≡ L
  known_kept =
      let test : Label → Bool = λ a. member a L in
      ascending-unique (spread (keep test) N) L (filter-ascends test N also) up
      (λ a m. member→in a L ((in-filter test N a).0 m).1) (λ a m. (in-filter test N a).1 (w a m, in→member a L m))

  pub less-length : length N ≡ length L + length (less_labels N L)
  less-length = parted (λ a. member a L) N ∙ ap (λ (s : List Label). length s + length (less_labels N L)) known_kept
