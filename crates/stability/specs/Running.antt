-- What the rounds of a table come to, in areas of any size.
-- Assumes nothing.
use Rattle.std.specs.Prelude.{◌≡◌, ◌⊎◌, List, map, ℕ, ◌+◌, ◌*◌, ◌≤◌, ◌<◌, min, length, replicate, Result, Ok, Err}
use Rattle.meaning.specs.Labels.{Label, number}
use Rattle.meaning.specs.Descriptions as D
use Rattle.meaning.specs.Legal.{Legal}
use Rattle.meaning.specs.Answers.{too_large, listed, answer}
use Rattle.table.specs.Holding.{slots_in, Holds}
use Rattle.extents.specs.Extents.{part_at, words_in}
use Rattle.layout.specs.Layout.{half_of}
use Rattle.advances.specs.Advances.{Kept}
use Rattle.sets.specs.declared.TooLarge.{TooLarge}
use Rattle.stability.specs.Stages.{Passing}

-- What is asked of the areas before the first round, for so many terms: both rows of parts are all 0, each half of the work area has
-- room for as many labels as the log, and there is room for what a term is given.
pub record Ready (terms : ℕ) (slots sets news work log out : List ℕ) : Type 0 where
  pub slotted : terms ≤ length slots
  pub clear : sets ≡ replicate (length sets) 0
  pub rows : 2 * terms + 2 ≤ length sets
  pub news_clear : news ≡ replicate (length news) 0
  pub news_rows : 224 ≤ length news
  pub most : length log ≤ 2048
  pub halves : length log ≤ half_of work
  pub room : min 1024 (length log) ≤ length out

-- The root's set in the stable round, where it stands.
pub record RootListed (d : D.Description) (k : ℕ) (sets work : List ℕ) (most : ℕ) : Type 0 where
  pub labels : List Label
  pub outcome : answer d D.all ≡ listed k labels
  pub words : words_in (part_at sets d.root) work ≡ map number labels
  pub upright : (part_at sets d.root).from ≤ (part_at sets d.root).to
  pub within : (part_at sets d.root).to ≤ length work
  pub few : length labels ≤ most

-- A limit is passed, be it that of the log alone; or the root's set is known.
abbrev pub RunEnds : D.Description → (sets work : List ℕ) (most : ℕ) → Result ℕ TooLarge → Type 0
RunEnds d sets work most (Err e) = (answer d D.all ≡ too_large) ⊎ Passing d most
RunEnds d sets work most (Ok k) = RootListed d k sets work most

pub record Ran (table lists slots sets news work log out slots' sets' news' work' log' out' : List ℕ) (r : Result ℕ TooLarge) : Type 0 where
  pub kept : Kept sets news work log out sets' news' work' log' out'
  pub slots_long : length slots' ≡ length slots
  pub short : length slots < length (slots_in table) → r ≡ Err (record {})
  pub right : (d : D.Description) (o : D.Order) → Legal d o → Holds d table lists → Ready (D.term_count d) slots sets news work log out
      → RunEnds d sets' work' (length log) r
