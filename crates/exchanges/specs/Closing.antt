-- The labels of a row, each with all that comes of it by rules.
-- Assumes nothing.
use Rattle.std.specs.Prelude.{List, ℕ, Result}
use Rattle.sets.specs.declared.TooLarge.{TooLarge}
use Rattle.sets.specs.Building.{GrownAt, each}
use Rattle.extents.specs.Extents.{at_start}
use Rattle.rules.specs.Rules.{exchanges_in}
use Rattle.choices.specs.Following.{closed}

-- They go into a set at the start of words of its own, one after the other.
abbrev pub Closes : ℕ → (labels operand ls before after : List ℕ) → Result ℕ TooLarge → Type 0
Closes len labels operand ls before after r =
    GrownAt (at_start len) (λ room. each (closed room operand (exchanges_in ls)) labels) before after r
