-- What round after round comes to, for the table of a legal description. Only private functions cite `LastMade`.
-- Assumes nothing.
use Rattle.std.specs.Prelude.{◌≡◌, ◌⊎◌, List, map, ℕ, T, length, Result, Ok, Err}
use Rattle.meaning.specs.Labels.{number}
use Rattle.meaning.specs.Sets.{at}
use Rattle.meaning.specs.Descriptions as D
use Rattle.meaning.specs.Rounds.{round_sets}
use Rattle.meaning.specs.Answers.{too_large, listed, answer}
use Rattle.table.specs.Encoded.{slot_of}
use Rattle.table.specs.Holding.{HoldsLists}
use Rattle.layout.specs.Layout.{Standing}
use Rattle.deltas.specs.Deltas.{over_in}
use Rattle.advances.specs.Advances.{Midway, Kept}
use Rattle.sets.specs.declared.TooLarge.{TooLarge}

-- A limit is passed: the sets of some round have more labels together than the log has room for, or pass another limit.
pub record Passing (d : D.Description) (most : ℕ) : Type 0 where
  pub round : ℕ
  pub passed : T (over_in most (round_sets d round))

-- or the sets of the stable round stand
pub record Stable (d : D.Description) (k : ℕ) (sets work : List ℕ) (most : ℕ) : Type 0 where
  pub outcome : answer d D.all ≡ listed k (at (round_sets d k) d.root)
  pub stands : Standing (D.term_count d) (λ t. map number (at (round_sets d k) t)) sets work
  pub few : T (over_in most (round_sets d k)) → ⊥

abbrev pub LastEnds : D.Description → (sets work : List ℕ) (most : ℕ) → Result ℕ TooLarge → Type 0
LastEnds d sets work most (Err e) = (answer d D.all ≡ too_large) ⊎ Passing d most
LastEnds d sets work most (Ok k) = Stable d k sets work most

pub record LastMade (slots lists bodies sets news work log out sets' news' work' log' out' : List ℕ) (r : Result ℕ TooLarge) : Type 0 where
  pub kept : Kept sets news work log out sets' news' work' log' out'
  pub right : (d : D.Description) → slots ≡ map slot_of d.terms → HoldsLists d lists → bodies ≡ d.bodies
      → Midway d 0 0 sets news work log out 0 → LastEnds d sets' work' (length log) r
