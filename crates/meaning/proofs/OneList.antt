-- Two legal lists in a row have a legal list in their place: the names of both, or the labels that both list.
-- Assumes nothing.
use mathlib.Core.Path.{◌≡◌, refl, sym, subst}
use mathlib.Core.Bool.{Bool}
use mathlib.Core.Logic.{◌⊎◌, inl, inr, ◌↔◌}
use mathlib.Core.List.{List, [], ◌∷◌, ◌++◌, append-nil}
use Prim.Native.Nat.{ℕ, zero, suc, ◌≤◌, ◌<◌, zero-le, suc-le-suc}
use native.Mathlib.Nat.{le_trans, lt_irrefl, lt_trans}
use native.Mathlib.Omega.{arith}
use native.Mathlib.Decide.{ℕ_discrete}
use lib.ListN.{length}
use Rattle.meaning.specs.Labels.{Label, number}
use Rattle.meaning.specs.Sets.{◌∈◌, member, Rising, spread, keep}
use Rattle.meaning.specs.Legal.{Each, LegalLabel, LegalNames, LegalLabels}
use Rattle.meaning.specs.Laws.{Union, Common}
use Rattle.meaning.proofs.Ascent.{Within, sorted-once, once-count, rising-sorted, sorted-rising, NumberLess}
use Rattle.meaning.proofs.Members.{each_in, each_of, in-append, in-filter, member→in, in→member}
use Rattle.meaning.proofs.Maps.{listed?}
use Rattle.meaning.proofs.Answers.{filter-sorted}

-- A list with an entry is not empty.
some-entry : {A : Type 0} (s : List A) (a : A) → a ∈ s → 1 ≤ length s
some-entry {A = A} [] a m = elim m [ ]
some-entry (b ∷ s) a m = suc-le-suc zero-le

first_entry : (s t : List ℕ) → 1 ≤ length s → ((n : ℕ) → n ∈ s → n ∈ t) → 1 ≤ length t
first_entry [] t h w = absurd (omega arith)
first_entry (n ∷ s) t h w = some-entry t n (w n (inl refl))

-- A greater number behind ascending ones.
rising-last : (s : List ℕ) (n : ℕ) → Rising s → Each (λ m. m < n) s → Rising (s ++ (n ∷ []))
rising-last [] n r h = (tt, tt)
rising-last (m ∷ []) n r h = (h.0, (tt, tt))
rising-last (m ∷ k ∷ s) n r h = (r.0, rising-last (k ∷ s) n r.1 h.1)

-- The numbers below another of which something holds, ascending.
module _ (P : ℕ → Type 0) (holds? : (n : ℕ) → Dec (P n)) where
  abbrev kept_if : (n : ℕ) → Dec (P n) → List ℕ
  kept_if n (yes p) = n ∷ []
  kept_if n (no h) = []

  below : ℕ → List ℕ
  below zero = []
  below (suc n) = below n ++ kept_if n (holds? n)

  in_kept : (n m : ℕ) (x : Dec (P n)) → (m ∈ kept_if n x) ↔ ((m ≡ n) × P m)
  in_kept n m (yes p) = (elim [ inl e ↦ (e, subst P (sym e) p) | inr k ↦ absurd k ], λ h. inl h.0)
  in_kept n m (no h) = (λ k. absurd k, λ k. h (subst P k.0 k.1))

  in-below : (n m : ℕ) → (m ∈ below n) ↔ ((m < n) × P m)
  unfolding below
  in-below zero m = (λ k. absurd k, λ h. absurd (omega (arith, h.0)))
  in-below (suc n) m = (
    λ k. elim ((in-append m (below n) (kept_if n (holds? n))).0 k) [
      | inl l ↦ let x = (in-below n m).0 l in (omega (arith, x.0), x.1)
      | inr l ↦ let x = (in_kept n m (holds? n)).0 l in (omega (arith, x.0), x.1)
    ],
    λ h. (in-append m (below n) (kept_if n (holds? n))).1 (elim (ℕ_discrete m n) [
      | yes e ↦ inr ((in_kept n m (holds? n)).1 (e, h.1))
      | no d ↦ inl ((in-below n m).1 (omega (arith, h.0), h.1))
    ]),
  )

  rising-kept : (s : List ℕ) (n : ℕ) (x : Dec (P n)) → Rising s → Each (λ m. m < n) s → Rising (s ++ kept_if n x)
  rising-kept s n (yes p) r h = rising-last s n r h
  rising-kept s n (no g) r h = rw (append-nil s) r

  below-rises : (n : ℕ) → Rising (below n)
  unfolding below
  below-rises zero = tt
  below-rises (suc n) = rising-kept (below n) n (holds? n) (below-rises n) (each_in (λ m. m < n) (below n) (λ m k. ((in-below n m).0 k).0))

-- The names of both lists.
pub record NamesOfBoth (names : ℕ) (ns ms : List ℕ) : Type 0 where
  pub list : List ℕ
  pub legal : LegalNames names list
  pub union : Union ns ms list

either? : (ns ms : List ℕ) (n : ℕ) → Dec ((n ∈ ns) ⊎ (n ∈ ms))
either? ns ms n =
    elim (listed? n ns) [
      | yes k ↦ yes (inl k)
      | no h ↦ elim (listed? n ms) [ yes k ↦ yes (inr k) | no g ↦ no (elim [ inl k ↦ h k | inr k ↦ g k ]) ]
    ]

pub names-of-both : (names : ℕ) (ns ms : List ℕ) → LegalNames names ns → LegalNames names ms → NamesOfBoth names ns ms
names-of-both names ns ms l r =
    let P : ℕ → Type 0 = λ n. (n ∈ ns) ⊎ (n ∈ ms) in
    let in-range : (n : ℕ) → P n → n < names = λ n. elim [ inl m ↦ each_of (λ k. k < names) ns l.1 n m | inr m ↦ each_of (λ k. k < names) ms r.1 n m ] in
    let ks = below P (either? ns ms) names in
    let there : (n : ℕ) → P n → n ∈ ks = λ n h. (in-below P (either? ns ms) names n).1 (in-range n h, h) in
    record {
      list = ks;
      legal = (
        first_entry ns ks l.0 (λ n m. there n (inl m)),
        each_in (λ n. n < names) ks (λ n m. ((in-below P (either? ns ms) names n).0 m).0),
        below-rises P (either? ns ms) names,
      );
      union = λ n. (λ m. ((in-below P (either? ns ms) names n).0 m).1, there n);
    }

-- The labels that both list.
pub record LabelsOfBoth (names : ℕ) (ls ms : List Label) : Type 0 where
  pub list : List Label
  pub legal : LegalLabels names list
  pub common : Common ls ms list

pub labels-of-both : (names : ℕ) (ls ms : List Label) → LegalLabels names ls → LabelsOfBoth names ls ms
labels-of-both names ls ms l =
    let test : Label → Bool = λ a. member a ms in
    let ks = spread (keep test) ls in
    let sorted = filter-sorted NumberLess test ls (rising-sorted ls l.2) in
    let once = sorted-once NumberLess (λ a. lt_irrefl (number a)) (λ a b c h k. lt_trans h k) ks sorted in
    let within : Within ks ls = λ a m. ((in-filter test ls a).0 m).0 in
    record {
      list = ks;
      legal = (
        le_trans (once-count ks ls once within).0 l.0,
        each_in (LegalLabel names) ks (λ a m. each_of (LegalLabel names) ls l.1 a (within a m)),
        sorted-rising ks sorted,
      );
      common = λ a. (
        λ m. let x = (in-filter test ls a).0 m in (x.0, member→in a ms x.1),
        λ h. (in-filter test ls a).1 (h.0, in→member a ms h.1),
      );
    }
