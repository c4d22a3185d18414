-- Limits (docs/FORMAT.md, "Limits").
-- Assumes nothing.
use Rattle.std.specs.Prelude.{Bool, false, ◌||◌, List, [], ◌∷◌, ℕ, ◌+◌, T, ltb, length}
use Rattle.meaning.specs.Labels.{Label, size}
use Rattle.meaning.specs.Sets.{◌∈◌, at}
use Rattle.meaning.specs.Descriptions.{Description}
use Rattle.meaning.specs.Rounds.{InSet}

-- how many labels the sets hold together
unfoldable pub total : List (List Label) → ℕ
total [] = 0
total (s ∷ sets) = length s + total sets

-- a label over 31 actions, a set over 1,024 labels, all sets over 2,048 together
unfoldable pub some_long : List Label → Bool
some_long [] = false
some_long (a ∷ s) = ltb 31 (size a) || some_long s

unfoldable pub some_over : List (List Label) → Bool
some_over [] = false
some_over (s ∷ sets) = some_long s || ltb 1024 (length s) || some_over sets

unfoldable pub over : List (List Label) → Bool
over sets = some_over sets || ltb 2048 (total sets)

-- No label twice.
abbrev pub Once : List Label → Type 0
Once [] = Unit {0}
Once (a ∷ s) = (a ∈ s → ⊥) × Once s

-- The least sets pass a limit: so does some finite part of them, a list for each term, no label twice in one list.
pub record PassesLimit (d : Description) : Type 0 where
  pub part : List (List Label)
  pub in_sets : (t : ℕ) (a : Label) → a ∈ at part t → InSet d t a
  pub once : (t : ℕ) → Once (at part t)
  pub too_much : T (over part)
