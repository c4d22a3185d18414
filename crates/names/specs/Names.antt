-- Counts of names, and maps of names.
-- Assumes nothing.
use Rattle.std.specs.Prelude.{◌≡◌, List, [], ◌∷◌, ℕ, zero, suc, ◌<◌}
use Rattle.meaning.specs.Labels.{count}
use Rattle.meaning.specs.Descriptions.{Pair}
use Rattle.meaning.specs.Rounds.{target}
use Rattle.labels.specs.Bags.{bag}

-- How often a name occurs: a digit.
pub record Counted (w n r : ℕ) : Type 0 where
  pub exact : r ≡ count (bag w) n
  pub small : r < 32

-- A map of names as the list of where each goes, from name `first` on; the 24 names under pairs.
unfoldable pub tabulated : ℕ → ℕ → (ℕ → ℕ) → List ℕ
tabulated zero first to = []
tabulated (suc more) first to = to first ∷ tabulated more (suc first) to

abbrev pub targets : List Pair → List ℕ
targets ps = tabulated 24 0 (target ps)
