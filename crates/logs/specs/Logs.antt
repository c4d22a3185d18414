-- The labels of a list that another list does not have, written from a place on.
-- Assumes nothing.
use Rattle.std.specs.Prelude.{true, false, List, [], ◌∷◌, ℕ, ◌-◌, length, Result}
use Rattle.parts.specs.Parts.{most_labels, room_at}
use Rattle.sets.specs.declared.TooLarge.{TooLarge}
use Rattle.sets.specs.Inserting.{present}
use Rattle.sets.specs.Building.{Grown}
use Rattle.merging.specs.Joining.{cut_to}

-- the labels that are looked for in an ascending list and not found there
unfoldable pub less_of : (known made : List ℕ) → List ℕ
less_of known [] = []
less_of known (w ∷ ws) = elim (present known w) [ true ↦ less_of known ws | false ↦ w ∷ less_of known ws ]

-- A set has at most 1,024 labels, and the log ends.
abbrev pub space_for : (known : List ℕ) (at : ℕ) (log : List ℕ) → ℕ
space_for known at log = room_at at (most_labels - length known) (length log)

-- As many of them as there is room for are written, and whether that is all.
abbrev pub Logs : (known made : List ℕ) (at : ℕ) (before after : List ℕ) → Result ℕ TooLarge → Type 0
Logs known made at before after r = Grown (λ s. cut_to (space_for known at before) (less_of known made)) at 0 before after r
