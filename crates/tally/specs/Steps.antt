-- Where the figures of verdicts stand. Only private functions cite this: no public contract rests on it.
-- Assumes nothing.
use Rattle.std.specs.Prelude.{true, false, List, [], ◌∷◌, ℕ, suc, eqb, ltb, length, get_or, Option, Some, None}
use Rattle.meaning.specs.Rounds.{pick}
use Rattle.tally.specs.declared.Tally.{Tally}
use Rattle.tally.specs.Figures.{refusal_numbers}

-- the first place of a number in a list; its length if it is not there
unfoldable pub position : ℕ → List ℕ → ℕ
position n [] = 0
position n (m ∷ ms) = elim (eqb n m) [ true ↦ 0 | false ↦ suc (position n ms) ]

-- where the figure of a refusal stands; behind them all for a number that no refusal has
abbrev pub place_or_end : ℕ → ℕ
place_or_end n = position n refusal_numbers

abbrev pub place_of : ℕ → Option ℕ
place_of n = pick (ltb (place_or_end n) (length refusal_numbers)) (Some (place_or_end n)) None

-- the figure that counts the verdicts with the number
unfoldable pub figure_of : Tally → ℕ → ℕ
figure_of t n = elim (eqb n 0) [ true ↦ t.answered | false ↦ get_or t.refusals (place_or_end n) 0 ]
