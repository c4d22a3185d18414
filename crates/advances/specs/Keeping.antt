-- The new labels of what is given for a term, kept: behind the end of the log, and in the set of the term.
-- Assumes nothing.
use Rattle.std.specs.Prelude.{◌≡◌, List, map, ℕ, suc, ◌+◌, ◌≤◌, ◌<◌, length, Result, Ok, Err}
use Rattle.meaning.specs.Labels.{Label, number}
use Rattle.meaning.specs.Sets.{◌∈◌, at}
use Rattle.meaning.specs.Descriptions as D
use Rattle.meaning.specs.Rounds.{round_sets}
use Rattle.labels.proofs.Refinement.{Packs}
use Rattle.parts.specs.declared.Part.{Part}
use Rattle.parts.specs.Parts.{laid}
use Rattle.sets.specs.declared.TooLarge.{TooLarge}
use Rattle.extents.specs.Extents.{with_part, words_in}
use Rattle.logs.specs.Logs.{less_of, space_for}
use Rattle.layout.specs.Layout.{Grows}
use Rattle.deltas.specs.Deltas.{arrived}
use Rattle.advances.specs.Advances.{Midway, Kept, Onward}

-- All new labels are behind the end of the log, which then ends behind them; or there is no room for so many.
abbrev pub Placed : (known new : List ℕ) (end : ℕ) (log log' : List ℕ) → Result ℕ TooLarge → Type 0
Placed known new end log log' (Err e) = space_for known end log < length new
Placed known new end log log' (Ok to) = (to ≡ end + length new) × (log' ≡ laid end new log) × (length new ≤ space_for known end log)

pub record Appended (known made : List ℕ) (end : ℕ) (log log' : List ℕ) (r : Result ℕ TooLarge) : Type 0 where
  pub long : length log' ≡ length log
  pub right : end ≤ length log → Placed known (less_of known made) end log log' r

-- What stands in a part of the log is entered as new for a term, and goes into its set.
pub record TakenIn (terms n : ℕ) (p : Part) (log sets news work sets' news' work' : List ℕ) : Type 0 where
  pub row : news' ≡ with_part news n p
  pub grown : Grows terms n p.to (words_in p log) sets work sets' work'

-- Where what is given holds what is new in the set of the term, and its set passes no limit by a label: one term more is done.
pub record KeptNew (terms n end : ℕ) (made sets news work log sets' news' work' log' : List ℕ) (r : Result ℕ TooLarge) : Type 0 where
  pub kept : (out : List ℕ) → Kept sets news work log out sets' news' work' log' out
  pub right : (d : D.Description) (k : ℕ) (out : List ℕ) → terms ≡ D.term_count d → n < D.term_count d → Midway d k n sets news work log out end
      → ((a : Label) → a ∈ at (round_sets d (suc k)) n → Packs (D.names d) a)
      → less_of (map number (at (round_sets d k) n)) made ≡ map number (arrived d (suc k) n)
      → Onward d k (suc n) sets' news' work' log' out r
