-- Which verdicts a call may give, test by test.
-- Assumes nothing.
use mathlib.Core.Path.{◌≡◌, refl, sym, ◌∙◌}
use mathlib.Core.Bool.{Bool, true, false, ◌&&◌, true≢false}
use Prim.Native.Nat.{ℕ, ◌<◌, ◌≤◌}
use native.Mathlib.Omega.{arith}
use borrow.Author.Tests.{ltb-true, leb-true, eqb-true, le-leb, lt-leb, eq-eqb, ne_eqb}
use lib.Dec.{leb, eqb}
use Rattle.std.specs.Prelude.{Option, is_some}
use Rattle.meaning.proofs.Tests.{and-true→}
use Rattle.tally.specs.declared.Verdict.{Verdict}
use Rattle.tally.specs.Figures.{refusal_numbers}
use Rattle.tally.specs.Additions.{among, refusal_given, answer_given, given}
use Rattle.tally.specs.Steps.{place_or_end, place_of}
use Rattle.tally.proofs.Places.{among-by-place, some-placed}

-- An answer: its labels, and then its rounds.
pub answer-too-many : (v : Verdict) → 1024 < v.labels → false ≡ answer_given v
unfolding answer_given
answer-too-many v over = rw (lt-leb v.labels 1024 over) refl

pub answer-by-rounds : (v : Verdict) → v.labels ≤ 1024 → (leb 1 v.rounds && leb v.rounds 2049) ≡ answer_given v
unfolding answer_given
answer-by-rounds v few = rw (le-leb v.labels 1024 few) refl

-- A refusal: its number, and then its labels and its rounds.
pub refusal-unknown : (v : Verdict) (place : Option ℕ) → place ≡ place_of v.reason → is_some place ≡ false → false ≡ refusal_given v
unfolding refusal_given
refusal-unknown v place e none = rw (sym (some-placed v.reason place e) ∙ none) refl

pub refusal-by-figures : (v : Verdict) (place : Option ℕ) → place ≡ place_of v.reason → is_some place ≡ true
    → (eqb v.labels 0 && eqb v.rounds 0) ≡ refusal_given v
unfolding refusal_given
refusal-by-figures v place e some = rw (sym (some-placed v.reason place e) ∙ some) refl

-- Two tests, the second made only where the first passed.
pub both-when : (b c : Bool) {whole : Bool} → b ≡ true → (b && c) ≡ whole → c ≡ whole
both-when true c e w = w
both-when false c e w = absurd (true≢false (sym e))

pub neither-when : (b c : Bool) {whole : Bool} → b ≡ false → (b && c) ≡ whole → b ≡ whole
neither-when true c e w = absurd (true≢false e)
neither-when false c e w = w

pub given-answer : (v : Verdict) {r : Bool} → v.reason ≡ 0 → r ≡ answer_given v → r ≡ given v
unfolding given
given-answer v zero e = rw (eq-eqb v.reason 0 zero, given) e

pub given-refusal : (v : Verdict) {r : Bool} → (v.reason ≡ 0 → ⊥) → r ≡ refusal_given v → r ≡ given v
unfolding given
given-refusal v other e = rw (ne_eqb v.reason 0 other, given) e

-- What is known of a verdict that a call may give.
pub record Limits (v : Verdict) : Type 0 where
  pub few-labels : v.labels ≤ 1024
  pub few-rounds : v.rounds ≤ 2049
  pub placed : (v.reason ≡ 0 → ⊥) → place_or_end v.reason < 7

pub given-limits : (v : Verdict) → given v ≡ true → Limits v
unfolding given answer_given refusal_given
given-limits v g = by_number (eqb v.reason 0) refl g
  where
    by_number : (b : Bool) → eqb v.reason 0 ≡ b → elim b [ true ↦ answer_given v | false ↦ refusal_given v ] ≡ true → Limits v
    by_number true zeroth g =
        let by-labels = and-true→ (leb v.labels 1024) _ g in
        let by-rounds = and-true→ (leb 1 v.rounds) (leb v.rounds 2049) by-labels.1 in
        record {
          few-labels = leb-true v.labels 1024 by-labels.0;
          few-rounds = leb-true v.rounds 2049 by-rounds.1;
          placed = λ other. absurd (other (eqb-true v.reason 0 zeroth));
        }
    by_number false other g =
        let by_number = and-true→ (among v.reason refusal_numbers) _ g in
        let by-figures = and-true→ (eqb v.labels 0) (eqb v.rounds 0) by_number.1 in
        let no-labels = eqb-true v.labels 0 by-figures.0 in
        let no-rounds = eqb-true v.rounds 0 by-figures.1 in
        record {
          few-labels = omega (arith, no-labels);
          few-rounds = omega (arith, no-rounds);
          placed = λ _. ltb-true (place_or_end v.reason) 7 (among-by-place v.reason refusal_numbers ∙ by_number.0);
        }
