-- Where the search for a name may begin, by its letter.
-- Assumes nothing.
use Rattle.std.specs.Prelude.{◌≡◌, List, ℕ, ◌%◌, ◌<◌, ◌^◌, get_or}
use Rattle.words.specs.Searches.{number_from}

-- Any name looked for from the start of its letter on is found as it is from this place on.
abbrev pub StartingAt : List ℕ → List ℕ → ℕ → Type 0
StartingAt names starts place = (w : ℕ) → w < 2 ^ 64 → number_from names (get_or starts (w % 32) 0) w ≡ number_from names place w

abbrev pub Starting : List ℕ → List ℕ → Type 0
Starting names starts = StartingAt names starts 0
