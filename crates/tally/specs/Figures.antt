-- The figures of a tally (docs/FORMAT.md, "The tally of a model store"), worked out from the list of the verdicts that it counts.
-- Assumes nothing.
use Rattle.std.specs.Prelude.{Bool, true, false, List, [], ◌∷◌, map, ℕ, ◌+◌, max, eqb, length}
use Rattle.meaning.specs.Labels.{size}
use Rattle.tally.specs.declared.Verdict.{Verdict}
use Rattle.tally.specs.declared.Tally.{Tally}

-- How many of the verdicts have the number, which is 0 for an answer.
abbrev pub one : Bool → ℕ
one true = 1
one false = 0

unfoldable pub saying : ℕ → List Verdict → ℕ
saying n [] = 0
saying n (v ∷ vs) = one (eqb v.reason n) + saying n vs

-- The labels listed, of all together.
unfoldable pub all_labels : List Verdict → ℕ
all_labels [] = 0
all_labels (v ∷ vs) = v.labels + all_labels vs

-- The most rounds seen; of no verdict 0.
unfoldable pub most_rounds : List Verdict → ℕ
most_rounds [] = 0
most_rounds (v ∷ vs) = max v.rounds (most_rounds vs)

-- One figure each for refusals 1, 2, 3, 4, 5, 7 and 10.
abbrev pub refusal_numbers : List ℕ
refusal_numbers = 1 ∷ 2 ∷ 3 ∷ 4 ∷ 5 ∷ 7 ∷ 10 ∷ []

abbrev pub figures_of : List Verdict → Tally
figures_of vs =
    record {
      descriptions = length vs;
      answered = saying 0 vs;
      refusals = map (λ n. saying n vs) refusal_numbers;
      labels = all_labels vs;
      rounds = most_rounds vs;
    }

-- How many were refused, with any number.
abbrev pub refused : Tally → ℕ
refused t = size t.refusals
