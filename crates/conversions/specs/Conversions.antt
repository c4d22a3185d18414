-- Numbers of labels in one word and in two (docs/FORMAT.md, "Labels in words").
-- Assumes nothing.
use Rattle.std.specs.Prelude.{◌≡◌, Bool, false, not, ◌&&◌, ◌||◌, List, [], ◌∷◌, ℕ, ◌/◌, ◌%◌, eqb, leb, length, Option, Some, None, Result, Ok, Err}
use Rattle.meaning.specs.Rounds.{pick}
use Rattle.areas.specs.Areas.{put}
use Rattle.conversions.specs.declared.ConversionError.{ConversionError}
use Rattle.conversions.specs.declared.ConversionError.TheVariants.{TooShort, UpperInUse}

-- From one word to two: each number with an upper word that is 0.
unfoldable pub widened : List ℕ → List ℕ
widened [] = []
widened (n ∷ ns) = n ∷ 0 ∷ widened ns

-- Back: the lower words, if no upper word is in use.
unfoldable pub lowers : List ℕ → List ℕ
lowers [] = []
lowers (lower ∷ []) = []
lowers (lower ∷ upper ∷ ws) = lower ∷ lowers ws

unfoldable pub in_use : List ℕ → Bool
in_use [] = false
in_use (lower ∷ []) = false
in_use (lower ∷ upper ∷ ws) = not (eqb upper 0) || in_use ws

abbrev pub narrow_of : (lower upper : ℕ) → Option ℕ
narrow_of lower upper = pick (eqb upper 0) (Some lower) None

-- What is answered: 0, or the number of the refusal. 1 comes first: an area is too short, or a label lacks its upper word.
abbrev pub widen_answer : (numbers area : List ℕ) → ℕ
widen_answer numbers area = pick (leb (length numbers) (length area / 2)) 0 1

abbrev pub narrow_answer : (words area : List ℕ) → ℕ
narrow_answer words area = pick (eqb (length words % 2) 0 && leb (length words / 2) (length area)) (pick (in_use words) 11 0) 1

-- What is given goes to the start of the area; a refusal touches nothing.
pub record Converted (answer : ℕ) (given area area' : List ℕ) (r : ℕ) : Type 0 where
  pub answers : r ≡ answer
  pub areas : area' ≡ pick (eqb answer 0) (put given area) area

-- The number of what a conversion came to.
abbrev pub number_of : Result (Unit {0}) ConversionError → ℕ
number_of (Ok made) = 0
number_of (Err TooShort) = 1
number_of (Err UpperInUse) = 11
