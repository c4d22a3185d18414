-- Whether the figures with one verdict more fit: the three that can pass their most decide.
-- Assumes nothing.
use mathlib.Core.Path.{◌≡◌, refl, sym, ap, ◌∙◌}
use mathlib.Core.Bool.{Bool, true, false, ◌&&◌}
use mathlib.Core.List.{List, [], ◌∷◌}
use Prim.Native.Nat.{ℕ, zero, suc, ◌+◌, ◌-◌, ◌≤◌, ◌<◌, max}
use native.Mathlib.Nat.{add-zero, max-zero, max-le}
use native.Mathlib.Omega.{arith}
use native.Mathlib.Decide.{dec_lt}
use borrow.Author.Tests.{leb-true, le-leb, lt-leb, eq-eqb, ne_eqb, eqb-true, eqb-false}
use lib.Dec.{leb, eqb}
use lib.ListN.{length, get_or, set, get_or-eq_default}
use Rattle.std.specs.Int.{from_bool}
use Rattle.meaning.proofs.Tests.{and-true→, leb-behind}
use Rattle.tally.specs.declared.Tally.{Tally}
use Rattle.tally.specs.declared.Verdict.{Verdict}
use Rattle.tally.specs.Figures.{one, all_labels, most_rounds, refusal_numbers}
use Rattle.tally.specs.Additions.{among, given, after, most, all_fit, fits}
use Rattle.tally.specs.Steps.{position, place_or_end, figure_of}
use Rattle.tally.proofs.Held.{Held}
use Rattle.tally.proofs.Givens.{given-limits}
use Rattle.tally.proofs.Places.{distinct, saying-one, one-added, figure-answered, figure-elsewhere}

and_one : (b : Bool) → (b && true) ≡ b
and_one true = refl
and_one false = refl

and-swap : (b c : Bool) → (b && c) ≡ (c && b)
and-swap true true = refl
and-swap true false = refl
and-swap false true = refl
and-swap false false = refl

-- The figures of refusals with one more at a place: only that one can be too great.
pub set-fits : (fs : List ℕ) (p x : ℕ) → all_fit fs ≡ true → p < length fs → all_fit (set fs p x) ≡ leb x most
unfolding all_fit
set-fits [] p x fit inside = absurd (omega (arith, inside))
set-fits (f ∷ fs) zero x fit inside = rw (and-true→ (leb f most) (all_fit fs) fit).1 (and_one (leb x most))
set-fits (f ∷ fs) (suc p) x fit inside =
    let both = and-true→ (leb f most) (all_fit fs) fit in
    rw both.0 (set-fits fs p x both.1 (omega (arith, inside)))

pub set-behind : (fs : List ℕ) (p x : ℕ) → length fs ≤ p → set fs p x ≡ fs
set-behind [] p x behind = refl
set-behind (f ∷ fs) zero x behind = absurd (omega (arith, behind))
set-behind (f ∷ fs) (suc p) x behind = ap (λ (l : List ℕ). f ∷ l) (set-behind fs p x (omega (arith, behind)))

-- Each figure of a tally with one verdict more.
pub after-refusals : (t : Tally) (v : Verdict) → length t.refusals ≡ 7
    → (after t v).refusals ≡ set t.refusals (place_or_end v.reason) (get_or t.refusals (place_or_end v.reason) 0 + 1)
unfolding after distinct among
after-refusals t v seven = one-added v refusal_numbers t.refusals seven refl

pub after-answered : (t : Tally) (v : Verdict) → (after t v).answered ≡ t.answered + one (eqb v.reason 0)
unfolding after
after-answered t v = ap (λ (n : ℕ). t.answered + n) (saying-one 0 v)

pub after-labels : (t : Tally) (v : Verdict) → (after t v).labels ≡ t.labels + v.labels
unfolding after all_labels
after-labels t v = ap (λ (n : ℕ). t.labels + n) (add-zero v.labels)

pub after-rounds : (t : Tally) (v : Verdict) → (after t v).rounds ≡ max t.rounds v.rounds
unfolding after most_rounds
after-rounds t v = ap (λ (n : ℕ). max t.rounds n) (max-zero v.rounds)

pub after-descriptions : (t : Tally) (v : Verdict) → (after t v).descriptions ≡ t.descriptions + 1
unfolding after
after-descriptions t v = refl

-- The number that stands for a test.
pub one-from_bool : (b : Bool) → from_bool b ≡ one b
one-from_bool true = refl
one-from_bool false = refl

-- They fit, figure by figure.
each_fits : Bool → Bool → Bool → Bool → Bool → Bool
each_fits d a l r rs = d && (a && (l && (r && rs)))

fits-by-each : (t : Tally) → fits t
    ≡ each_fits (leb t.descriptions most) (leb t.answered most) (leb t.labels most) (leb t.rounds most) (all_fit t.refusals)
unfolding fits all_fit each_fits
fits-by-each t = refl

-- An answer has no place among the refusals, so their figures stay.
answer-behind : (v : Verdict) → v.reason ≡ 0 → place_or_end v.reason ≡ 7
unfolding position
answer-behind v e = ap place_or_end e

module _ (t : Tally) (v : Verdict) (is : Held t) (g : given v ≡ true) where
  rounds-fit : leb (after t v).rounds most ≡ true
  rounds-fit =
      let small : v.rounds ≤ most = omega (arith, (given-limits v g).few-rounds) in
      rw (after-rounds t v) (le-leb _ most (max-le is.rounds small))

  -- of an answer
  fits-with-answer : v.reason ≡ 0
      → fits (after t v) ≡ (leb (t.descriptions + 1) most && (leb (t.answered + 1) most && leb (t.labels + v.labels) most))
  unfolding each_fits
  fits-with-answer e =
      let behind = answer-behind v e in
      let stay = after-refusals t v is.seven ∙ set-behind t.refusals _ _ (omega (arith, behind, is.seven)) in
      let one_more = after-answered t v ∙ ap (λ (b : Bool). t.answered + one b) (eq-eqb v.reason 0 e) in
      fits-by-each (after t v)
      ∙ (λ i. each_fits (leb (after-descriptions t v i) most) (leb (one_more i) most) (leb (after-labels t v i) most) (rounds-fit i)
      ((ap all_fit stay ∙ is.refusals) i))
      ∙ ap (λ (b : Bool). leb (t.descriptions + 1) most && (leb (t.answered + 1) most && b)) (and_one (leb (t.labels + v.labels) most))

  -- of a refusal
  fits-with-refusal : (v.reason ≡ 0 → ⊥)
      → fits (after t v)
      ≡ (leb (t.descriptions + 1) most && (leb (get_or t.refusals (place_or_end v.reason) 0 + 1) most && leb (t.labels + v.labels) most))
  unfolding each_fits
  fits-with-refusal other =
      let more = after-refusals t v is.seven in
      let inside = (given-limits v g).placed other in
      let same = after-answered t v ∙ ap (λ (b : Bool). t.answered + one b) (ne_eqb v.reason 0 other) ∙ add-zero t.answered in
      fits-by-each (after t v)
      ∙ (λ i. each_fits (leb (after-descriptions t v i) most) ((ap (λ (n : ℕ). leb n most) same ∙ le-leb t.answered most is.answered) i)
      (leb (after-labels t v i) most) (rounds-fit i)
      ((ap all_fit more ∙ set-fits t.refusals _ _ is.refusals (omega (arith, inside, is.seven))) i))
      ∙ ap (λ (b : Bool). leb (t.descriptions + 1) most && b) (and-swap (leb (t.labels + v.labels) most) _)

  -- Three figures decide.
  fits_after : fits (after t v)
      ≡ (leb (t.descriptions + 1) most && (leb (figure_of t v.reason + 1) most && leb (t.labels + v.labels) most))
  fits_after = by_number (eqb v.reason 0) refl
    where
      decided : ℕ → Bool
      decided n = leb (t.descriptions + 1) most && (leb (n + 1) most && leb (t.labels + v.labels) most)

      by_number : (b : Bool) → eqb v.reason 0 ≡ b → fits (after t v) ≡ decided (figure_of t v.reason)
      by_number true e =
          let zeroth = eqb-true v.reason 0 e in
          fits-with-answer zeroth ∙ ap decided (figure-answered t zeroth)
      by_number false e =
          let other = eqb-false v.reason 0 e in
          fits-with-refusal other ∙ ap decided (figure-elsewhere t other refl)

  pub no-more-descriptions : t.descriptions ≡ most → false ≡ fits (after t v)
  no-more-descriptions full = rw (fits_after, lt-leb (t.descriptions + 1) most (omega (arith, full))) refl

  pub no-more-of-it : (f : ℕ) → f ≡ figure_of t v.reason → (t.descriptions ≡ most → ⊥) → f ≡ most → false ≡ fits (after t v)
  no-more-of-it f e some full =
      rw (
        fits_after,
        le-leb (t.descriptions + 1) most (omega (arith, is.descriptions, some)),
        lt-leb (figure_of t v.reason + 1) most (omega (arith, e, full)),
      ) refl

  pub by-labels : (f : ℕ) → f ≡ figure_of t v.reason → f ≤ most → (t.descriptions ≡ most → ⊥) → (f ≡ most → ⊥)
      → leb v.labels (most - t.labels) ≡ fits (after t v)
  by-labels f e within some more =
      rw (
        fits_after,
        le-leb (t.descriptions + 1) most (omega (arith, is.descriptions, some)),
        le-leb (figure_of t v.reason + 1) most (omega (arith, e, within, more)),
      )
      (leb-behind t.labels v.labels (most - t.labels) (t.labels + v.labels) most refl (omega (arith, is.labels)))

-- Where they fit, each figure does.
pub record Fitting (t : Tally) : Type 0 where
  pub descriptions : t.descriptions ≤ most
  pub answered : t.answered ≤ most
  pub labels : t.labels ≤ most
  pub refusals : all_fit t.refusals ≡ true

pub fitting : (t : Tally) → fits t ≡ true → Fitting t
unfolding each_fits
fitting t fit =
    let by-descriptions = and-true→ (leb t.descriptions most) _ (sym (fits-by-each t) ∙ fit) in
    let by-answered = and-true→ (leb t.answered most) _ by-descriptions.1 in
    let by-labels = and-true→ (leb t.labels most) _ by-answered.1 in
    record {
      descriptions = leb-true t.descriptions most by-descriptions.0;
      answered = leb-true t.answered most by-answered.0;
      labels = leb-true t.labels most by-labels.0;
      refusals = (and-true→ (leb t.rounds most) _ by-labels.1).1;
    }

-- So a figure of refusals that is to be raised is below its most.
pub raisable : (t : Tally) (v : Verdict) (p : ℕ) → p ≡ place_or_end v.reason → Held t → fits (after t v) ≡ true → get_or t.refusals p 0 < most
raisable t v p e is fit = by_place (dec_lt p 7)
  where
    raised : all_fit (set t.refusals p (get_or t.refusals p 0 + 1)) ≡ true
    raised =
        ap (λ (q : ℕ). all_fit (set t.refusals q (get_or t.refusals q 0 + 1))) e
        ∙ sym (ap all_fit (after-refusals t v is.seven)) ∙ (fitting (after t v) fit).refusals

    by_place : Dec (p < 7) → get_or t.refusals p 0 < most
    by_place (yes inside) =
        let more = get_or t.refusals p 0 + 1 in
        let small = leb-true more most (sym (set-fits t.refusals p more is.refusals (omega (arith, inside, is.seven))) ∙ raised) in
        omega (arith, small)
    by_place (no outside) =
        let none = get_or-eq_default t.refusals 0 {n = p} (omega (arith, outside, is.seven)) in
        omega (arith, none)

-- The figures that are worked out one by one are those of the tally with the verdict.
pub counted-after : (t : Tally) (v : Verdict) {a : ℕ} {rs : List ℕ} {r : ℕ} → length t.refusals ≡ 7
    → a ≡ one (eqb v.reason 0)
    → rs ≡ set t.refusals (place_or_end v.reason) (get_or t.refusals (place_or_end v.reason) 0 + 1)
    → r ≡ max t.rounds v.rounds
    → record { descriptions = t.descriptions + 1; answered = t.answered + a; refusals = rs; labels = t.labels + v.labels; rounds = r } ≡ after t v
unfolding after
counted-after t v seven by_number raised greater =
    λ i.
    record {
      descriptions = after-descriptions t v i;
      answered = (ap (λ (n : ℕ). t.answered + n) by_number ∙ sym (after-answered t v)) i;
      refusals = (raised ∙ sym (after-refusals t v seven)) i;
      labels = sym (after-labels t v) i;
      rounds = (greater ∙ sym (after-rounds t v)) i;
    }
