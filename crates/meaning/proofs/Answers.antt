-- The executable answer meets the declarative statement, and any two answers that meet it are equal.
-- Assumes nothing.
use mathlib.Core.Path.{◌≡◌, refl, sym, ap, ap₂, subst, ◌∙◌}
use mathlib.Core.Logic.{inl, inr, ◌↔◌, ◌≢◌}
use mathlib.Core.Bool.{Bool, true, false}
use mathlib.Core.List.{List, [], ◌∷◌, ◌++◌}
use Prim.Native.Nat.{ℕ, zero, suc, pred, ◌+◌, ◌≤◌, ◌<◌, compare, Ordering}
use native.Mathlib.Nat.{suc-add, add-suc}
use native.Mathlib.Omega.{arith}
use native.Mathlib.Decide.{dec_lt}
use lib.Dec.{T, compare_is_eq}
use lib.ListN.{length}
use Rattle.meaning.specs.Labels.{Label, size, order}
use Rattle.meaning.specs.Sets.{◌∈◌, at, spread, kept, keep}
use Rattle.meaning.specs.Descriptions.{Order, all, only, Description}
use Rattle.meaning.specs.Rounds.{body_sets, round_sets, equation_sets, Rounds}
use Rattle.meaning.specs.Limits.{some_over, over, PassesLimit}
use Rattle.meaning.specs.Answers.{Allows, Outcome, too_large, listed, Lists, Answers, admits, cut, same_labels, same_sets, answer_from, answer, Verdict}
use Rattle.meaning.proofs.Tests.{Says, compare-says, and_left, and_right, and_both}
use Rattle.meaning.proofs.Order.{same→eq, eq→same}
use Rattle.meaning.proofs.Digits.{size→small, number-below}
use Rattle.meaning.proofs.Ascent.{Sorted, NumberLess, sorted-rising, rising-unique}
use Rattle.meaning.proofs.Members.{Ascending, in-filter}
use Rattle.meaning.proofs.Carried.{against-last}
use Rattle.meaning.proofs.Growth.{round-ascends}
use Rattle.meaning.proofs.Lengths.{round-full}
use Rattle.meaning.proofs.Stability.{Stable, union-is-stable, unstable-total}
use Rattle.meaning.proofs.Filters.{allowed→, →allowed}
use Rattle.meaning.proofs.Limits.{long→some_long, over-one, over-some, over-all, round-passes, stable-passes}

-- The parts of equal verdicts.
module _ {v w : Verdict} (e : v ≡ w) where
  pub reason-eq : v.reason ≡ w.reason
  reason-eq = ap (λ (x : Verdict). x.reason) e

  pub rounds-eq : v.rounds ≡ w.rounds
  rounds-eq = ap (λ (x : Verdict). x.rounds) e

  pub labels-eq : v.labels ≡ w.labels
  labels-eq = ap (λ (x : Verdict). x.labels) e

-- The order's test.
pub admits→ : (o : Order) (a : Label) → T (admits o a) → Allows o a
admits→ all a t = tt
admits→ (only ls) a t = allowed→ ls a t

pub →admits : (o : Order) (a : Label) → Allows o a → T (admits o a)
→admits all a h = tt
→admits (only ls) a h = →allowed ls a h

pub in_cut : (o : Order) (s : List Label) (a : Label) → (a ∈ cut o s) ↔ ((a ∈ s) × Allows o a)
unfolding cut
in_cut o s a =
    let x = in-filter (admits o) s a in
    (λ m. ((x.0 m).0, admits→ o a (x.0 m).1), λ h. x.1 (h.0, →admits o a h.1))

-- A filter leaves a sorted list sorted.
pub filter-sorted : (L : Label → Label → Type 0) (test : Label → Bool) (s : List Label) → Sorted L s → Sorted L (spread (keep test) s)
unfolding spread
filter-sorted L test [] h = tt
filter-sorted L test (a ∷ s) h = put (test a) (filter-sorted L test s h.1)
  where
    put : (b : Bool) → Sorted L (spread (keep test) s) → Sorted L (kept b a ++ spread (keep test) s)
    put true k = (λ c m. h.0 c ((in-filter test s c).0 m).0, k)
    put false k = k

-- Within the limits the order of labels is that of their numbers.
by_number : (n : ℕ) (s : List Label) → ((a : Label) → a ∈ s → (size a ≤ 31) × (length a ≡ n)) → Ascending s → Sorted NumberLess s
by_number n [] h k = tt
by_number n (a ∷ s) h k = (
  λ b m.
      let p = h a (inl refl) in
      let q = h b (inr m) in
      number-below a b (size→small a p.0) (size→small b q.0) (p.1 ∙ sym q.1) (k.0 b m),
  by_number n s (λ b m. h b (inr m)) k.1,
)

-- A set at any place of sets that pass no limit.
pub no-long : (sets : List (List Label)) → (T (some_over sets) → ⊥) → (t : ℕ) (a : Label) → a ∈ at sets t → size a ≤ 31
no-long [] h t a m = absurd m
no-long (s ∷ sets) h zero a m =
    elim (dec_lt 31 (size a)) [ yes l ↦ absurd (h (over-one s sets (inl (long→some_long s a m l)))) | no n ↦ omega arith ]
no-long (s ∷ sets) h (suc t) a m = no-long sets (λ k. h (over-one s sets (inr (inr k)))) t a m

-- Equality of sets, tested.
pub same_labels→ : (s t : List Label) → T (same_labels s t) → s ≡ t
unfolding same_labels
same_labels→ [] [] h = refl
same_labels→ [] (b ∷ t) h = absurd h
same_labels→ (a ∷ s) [] h = absurd h
same_labels→ (a ∷ s) (b ∷ t) h =
    ap₂ {C = List Label} ◌∷◌ (same→eq a b (and_left (compare_is_eq (order a b)) (same_labels s t) h))
    (same_labels→ s t (and_right (compare_is_eq (order a b)) (same_labels s t) h))

same_labels-refl : (s : List Label) → T (same_labels s s)
unfolding same_labels
same_labels-refl [] = tt
same_labels-refl (a ∷ s) = and_both (compare_is_eq (order a a)) (same_labels s s) (eq→same a a refl) (same_labels-refl s)

pub same_sets→ : (s t : List (List Label)) → T (same_sets s t) → s ≡ t
unfolding same_sets
same_sets→ [] [] h = refl
same_sets→ [] (b ∷ t) h = absurd h
same_sets→ (a ∷ s) [] h = absurd h
same_sets→ (a ∷ s) (b ∷ t) h =
    ap₂ {C = List (List Label)} ◌∷◌ (same_labels→ a b (and_left (same_labels a b) (same_sets s t) h))
    (same_sets→ s t (and_right (same_labels a b) (same_sets s t) h))

same_sets-refl : (s : List (List Label)) → T (same_sets s s)
unfolding same_sets
same_sets-refl [] = tt
same_sets-refl (a ∷ s) = and_both (same_labels a a) (same_sets s s) (same_labels-refl a) (same_sets-refl s)

pub →same_sets : (s t : List (List Label)) → s ≡ t → T (same_sets s t)
→same_sets s t e = subst (λ (x : List (List Label)). T (same_sets s x)) e (same_sets-refl s)

-- A stable round that passes no limit gives the answer.
pub stable→lists : (d : Description) (o : Order) (k : ℕ) → ((j : ℕ) → j < k → Stable d j → ⊥) → Stable d k → (T (over (round_sets d (suc k))) → ⊥)
    → Lists d o (suc k) (cut o (at (round_sets d (suc k)) d.root))
unfolding cut
stable→lists d o k earlier e fits =
    let set = at (round_sets d (suc k)) d.root in
    let union = union-is-stable d k e d.root in
    record {
      within = λ x. fits (stable-passes d k e x);
      counted = record {
        at_least = omega arith;
        stable = e;
        smallest = by_case;
      };
      rising = sorted-rising (spread (keep (admits o)) set)
          (filter-sorted NumberLess (admits o) set
          (by_number (length d.words) set
          (λ a m. (no-long (round_sets d (suc k)) (λ t. fits (over-some (round_sets d (suc k)) t)) d.root a m, round-full d (suc k) d.root a m))
          (round-ascends d (suc k) d.root)));
      exactly = λ a. (
        λ m. let x = (in_cut o set a).0 m in ((union a).1 x.0, x.1),
        λ h. (in_cut o set a).1 ((union a).0 h.0, h.1),
      );
    }
  where
    by_case : (j : ℕ) → 1 ≤ j → j < suc k → equation_sets d j ≢ equation_sets d (pred j)
    by_case zero p q = absurd (omega arith)
    by_case (suc i) p q = λ s. earlier i (omega arith) s

-- One more round: a limit is passed, or the equation sets stay, or neither.
abbrev decide : Bool → Bool → Outcome → Outcome → Outcome
decide passed same answered later = elim passed [ true ↦ too_large | false ↦ elim same [ true ↦ answered | false ↦ later ] ]

decide-right : (d : Description) (o : Order) (passed same : Bool) (answered later : Outcome) → (T passed → PassesLimit d)
    → ((T passed → ⊥) → T same → Answers d o answered) → ((T same → ⊥) → Answers d o later) → Answers d o (decide passed same answered later)
decide-right d o true same answered later p a l = p tt
decide-right d o false true answered later p a l = a (λ t. t) tt
decide-right d o false false answered later p a l = l (λ t. t)

answer-from : (more k : ℕ) (d : Description) (o : Order) → k + more ≡ 2049 → ((j : ℕ) → j < k → Stable d j → ⊥)
    → Answers d o (answer_from more d o k (round_sets d k))
unfolding answer_from round_sets
answer-from zero k d o e h = round-passes d k (over-all (round_sets d k) (let l = unstable-total d k h in omega arith))
answer-from (suc more) k d o e h =
    let sets = round_sets d (suc k) in
    decide-right d o (over sets) (same_sets (body_sets d sets) (body_sets d (round_sets d k)))
    (listed (suc k) (cut o (at sets d.root))) (answer_from more d o (suc k) sets)
    (round-passes d (suc k))
    (λ fits same. stable→lists d o k h (same_sets→ (body_sets d sets) (body_sets d (round_sets d k)) same) fits)
    (λ differ. answer-from more (suc k) d o (suc-add k more ∙ sym (add-suc k more) ∙ e) (λ j l s.
    elim (against-last j k) [
      | inl i ↦ h j i s
      | inr x ↦ elim x [
        | inl i ↦ differ (→same_sets (body_sets d sets) (body_sets d (round_sets d k)) (subst (λ (n : ℕ). Stable d n) i s))
        | inr i ↦ absurd (omega arith)
      ]
    ]))

pub answer-right : (d : Description) (o : Order) → Answers d o (answer d o)
unfolding answer
answer-right d o = answer-from 2049 0 d o refl (λ j l. absurd (omega arith))

-- Uniqueness.
pub rounds-unique : (d : Description) (j k : ℕ) → Rounds d j → Rounds d k → j ≡ k
rounds-unique d j k p q = only_one (compare j k) (compare-says j k)
  where
    only_one : (o : Ordering) → Says ◌<◌ o j k → j ≡ k
    only_one Ordering.lt l = absurd (q.smallest j p.at_least l p.stable)
    only_one Ordering.eq l = l
    only_one Ordering.gt l = absurd (p.smallest k q.at_least l q.stable)

pub answers-unique : (d : Description) (o : Order) (x y : Outcome) → Answers d o x → Answers d o y → x ≡ y
answers-unique d o too_large too_large p q = refl
answers-unique d o too_large (listed k labels) p q = absurd (q.within p)
answers-unique d o (listed j labels) too_large p q = absurd (p.within q)
answers-unique d o (listed j labels) (listed k labels') p q =
    ap₂ {C = Outcome} listed (rounds-unique d j k p.counted q.counted)
    (rising-unique labels labels' p.rising q.rising (λ a m. (q.exactly a).1 ((p.exactly a).0 m)) (λ a m. (p.exactly a).1 ((q.exactly a).0 m)))

-- So an outcome is right exactly if it is the executable one.
pub answer-only : (d : Description) (o : Order) (x : Outcome) → Answers d o x → x ≡ answer d o
answer-only d o x p = answers-unique d o x (answer d o) p (answer-right d o)
