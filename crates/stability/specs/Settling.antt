-- What is left of the last round: the root's set alone in the work area, or nothing. Only private functions cite this.
-- Assumes nothing.
use Rattle.std.specs.Prelude.{◌≡◌, List, ℕ, ◌-◌, ◌≤◌, Result, Ok, Err}
use Rattle.areas.specs.Areas.{zeroed}
use Rattle.parts.specs.declared.Part.{Part}
use Rattle.extents.specs.Extents.{words_in}
use Rattle.meaning.specs.Labels.{in_words}
use Rattle.areas.specs.Rows.{held}
use Rattle.keeping.specs.Settling.{whole, whole_labels, alone}
use Rattle.stability.specs.declared.Found.{Found}
use Rattle.stability.specs.Endings.{found_at}
use Rattle.sets.specs.declared.TooLarge.{TooLarge}

-- Nothing but 0 where a limit is passed, else the root's set alone, if it stands in the words that are used.
abbrev pub Concluded : Result ℕ TooLarge → Part → (work work' : List ℕ) → Result Found TooLarge → Type 0
Concluded (Err e) p work work' r = (r ≡ Err (record {})) × (work' ≡ zeroed whole work)
Concluded (Ok k) p work work' r =
    p.to ≤ whole_labels → (r ≡ found_at k (p.to - p.from)) × (work' ≡ alone (in_words (words_in p (held work))) work)
