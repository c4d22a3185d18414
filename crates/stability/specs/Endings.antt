-- What the rounds of a description come to: the number of the stable round, with the root's set at the start of the work area and 0
-- behind it; or that a limit is passed, with 0 alone.
-- Assumes nothing.
use Rattle.std.specs.Prelude.{◌≡◌, List, [], map, ℕ, ◌≤◌, ◌<◌, length, Result, Ok, Err}
use Rattle.meaning.specs.Labels.{Label, number, in_words}
use Rattle.meaning.specs.Descriptions.{Description, Order, all}
use Rattle.meaning.specs.Legal.{Legal}
use Rattle.meaning.specs.Answers.{Outcome, too_large, listed, answer}
use Rattle.table.specs.Holding.{Holds}
use Rattle.keeping.specs.Settling.{whole, alone}
use Rattle.sets.specs.declared.TooLarge.{TooLarge}
use Rattle.stability.specs.declared.Found.{Found}

-- A round count and a number of labels as the code finds them; an outcome, and its labels.
abbrev pub found_at : (rounds labels : ℕ) → Result Found TooLarge
found_at rounds labels = Ok (record { rounds = rounds; labels = labels })

abbrev pub found_of : Outcome → Result Found TooLarge
found_of too_large = Err (record {})
found_of (listed rounds labels) = found_at rounds (length labels)

abbrev pub labels_of : Outcome → List Label
labels_of too_large = []
labels_of (listed rounds labels) = labels

-- The order `all` cuts nothing away, so that its outcome has the root's whole set.
pub record Reached (table lists work work' : List ℕ) (r : Result Found TooLarge) : Type 0 where
  pub short : length work < whole → (r ≡ Err (record {})) × (work' ≡ work)
  pub right : (d : Description) (o : Order)
      → Legal d o
      → Holds d table lists
      → whole ≤ length work
      → (r ≡ found_of (answer d all)) × (work' ≡ alone (in_words (map number (labels_of (answer d all)))) work)
