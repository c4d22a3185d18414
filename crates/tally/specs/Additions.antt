-- What becomes of a verdict that is added to a tally, and what the tally is afterwards (docs/FORMAT.md, "The tally of a model store").
-- Assumes nothing.
use Rattle.std.specs.Prelude.{◌≡◌, Bool, true, false, ◌&&◌, ◌||◌, List, [], ◌∷◌, ℕ, ◌+◌, max, eqb, leb, Result, Ok, Err}
use Rattle.meaning.specs.Labels.{plus}
use Rattle.tally.specs.declared.Verdict.{Verdict}
use Rattle.tally.specs.declared.Tally.{Tally}
use Rattle.tally.specs.declared.LeftOut.{LeftOut}
use Rattle.tally.specs.declared.LeftOut.TheVariants.{NoVerdict, Full}
use Rattle.tally.specs.Figures.{refusal_numbers, figures_of}

-- A verdict that a call may give: a refusal has one of these numbers, and its labels and rounds are 0; an answer has at most 1,024
-- labels and 1 to 2,049 rounds.
unfoldable pub among : ℕ → List ℕ → Bool
among n [] = false
among n (m ∷ ms) = eqb n m || among n ms

unfoldable pub refusal_given : Verdict → Bool
refusal_given v = among v.reason refusal_numbers && (eqb v.labels 0 && eqb v.rounds 0)

unfoldable pub answer_given : Verdict → Bool
answer_given v = leb v.labels 1024 && (leb 1 v.rounds && leb v.rounds 2049)

unfoldable pub given : Verdict → Bool
given v = elim (eqb v.reason 0) [ true ↦ answer_given v | false ↦ refusal_given v ]

-- The figures of two lists of verdicts together: the greater number of rounds, and of each other figure the sum.
abbrev pub together : Tally → Tally → Tally
together t u =
    record {
      descriptions = t.descriptions + u.descriptions;
      answered = t.answered + u.answered;
      refusals = plus t.refusals u.refusals;
      labels = t.labels + u.labels;
      rounds = max t.rounds u.rounds;
    }

unfoldable pub after : Tally → Verdict → Tally
after t v = together t (figures_of (v ∷ []))

-- No figure is past the most that it may reach.
abbrev pub most : ℕ
most = 4294967295

unfoldable pub all_fit : List ℕ → Bool
all_fit [] = true
all_fit (n ∷ ns) = leb n most && all_fit ns

abbrev pub figures : Tally → List ℕ
figures t = t.descriptions ∷ t.answered ∷ t.labels ∷ t.rounds ∷ t.refusals

unfoldable pub fits : Tally → Bool
fits t = all_fit (figures t)

-- What an addition comes to: the tally afterwards and a number, 0 for a verdict that is taken in. 18 comes first, then 17; with either the
-- tally stays as it was.
pub record Outcome : Type 0 where
  pub tally : Tally
  pub number : ℕ

unfoldable pub addition : Tally → Verdict → Outcome
addition t v =
    elim (given v) [
      | false ↦ record { tally = t; number = 18 }
      | true ↦ elim (fits (after t v)) [
        | false ↦ record { tally = t; number = 17 }
        | true ↦ record { tally = after t v; number = 0 }
      ]
    ]

-- The number of what became of a verdict.
abbrev pub number_of : Result (Unit {0}) LeftOut → ℕ
number_of (Ok taken_in) = 0
number_of (Err NoVerdict) = 18
number_of (Err Full) = 17

-- An addition settles what becomes of the verdict and every figure.
abbrev pub Adds : (t : Tally) (v : Verdict) (after : Tally) (answer : Result (Unit {0}) LeftOut) → Type 0
Adds t v after answer = (after ≡ (addition t v).tally) × (number_of answer ≡ (addition t v).number)
