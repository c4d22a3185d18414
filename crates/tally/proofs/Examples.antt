-- Additions worked out by the checker: a figure reaches its most and does not pass it, and 18 comes before 17.
-- Assumes nothing.
use mathlib.Core.Path.{◌≡◌, refl}
use mathlib.Core.List.{[], ◌∷◌}
use Prim.Native.Nat.{ℕ}
use Rattle.meaning.specs.Labels.{plus, size}
use Rattle.tally.specs.declared.Verdict.{Verdict}
use Rattle.tally.specs.declared.Tally.{Tally}
use Rattle.tally.specs.Figures.{saying, all_labels, most_rounds, figures_of, refused}
use Rattle.tally.specs.Additions.{among, refusal_given, answer_given, given, after, all_fit, fits, addition}

abbrev answer : (rounds labels : ℕ) → Verdict
answer rounds labels = record { reason = 0; rounds = rounds; labels = labels }

abbrev refusal : ℕ → Verdict
refusal number = record { reason = number; rounds = 0; labels = 0 }

-- A Friday of five descriptions.
friday : Tally
friday = figures_of (answer 2 17 ∷ refusal 7 ∷ answer 2 18 ∷ refusal 2 ∷ refusal 7 ∷ [])

the-friday : friday ≡ record { descriptions = 5; answered = 2; refusals = 0 ∷ 1 ∷ 0 ∷ 0 ∷ 0 ∷ 2 ∷ 0 ∷ []; labels = 35; rounds = 2 }
unfolding friday saying all_labels most_rounds
the-friday = refl

three-refused : refused friday ≡ 3
unfolding friday saying size
three-refused = refl

-- A tally after years: five labels more fit, six do not, and a verdict no call gives is told first.
abbrev years : (labels : ℕ) → Tally
years labels =
    record { descriptions = 52000; answered = 50000; refusals = 0 ∷ 900 ∷ 400 ∷ 300 ∷ 200 ∷ 150 ∷ 50 ∷ []; labels = labels; rounds = 2049 }

just-fits : addition (years 4294967290) (answer 1 5)
    ≡ record {
      tally =
          record { descriptions = 52001; answered = 50001; refusals = 0 ∷ 900 ∷ 400 ∷ 300 ∷ 200 ∷ 150 ∷ 50 ∷ []; labels = 4294967295; rounds = 2049 };
      number = 0;
    }
unfolding addition given answer_given after plus saying all_labels most_rounds fits all_fit
just-fits = refl

one-too-many : addition (years 4294967290) (answer 1 6) ≡ record { tally = years 4294967290; number = 17 }
unfolding addition given answer_given after plus saying all_labels most_rounds fits all_fit
one-too-many = refl

eighteen-first : addition (years 4294967290) (answer 2050 6) ≡ record { tally = years 4294967290; number = 18 }
unfolding addition given answer_given
eighteen-first = refl

-- The number that no call gives any more, and one that a refusal to come has.
no_six : (addition friday (refusal 6)).number ≡ 18
unfolding addition given refusal_given among
no_six = refl

ten : (addition friday (refusal 10)).tally.refusals ≡ 0 ∷ 1 ∷ 0 ∷ 0 ∷ 0 ∷ 2 ∷ 1 ∷ []
unfolding friday addition given refusal_given among after plus saying all_labels most_rounds fits all_fit
ten = refl
