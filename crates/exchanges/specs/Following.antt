-- A set at the start of words of its own that is added to, with a memory of states: what is asked of both, and what is promised.
-- Assumes nothing.
use Rattle.std.specs.Prelude.{◌≡◌, List, ℕ, ◌≤◌, ◌<◌, length, Result, Ok}
use Rattle.meaning.specs.Sets.{Rising}
use Rattle.parts.specs.Parts.{set_at}
use Rattle.sets.specs.declared.TooLarge.{TooLarge}
use Rattle.sets.specs.Building.{GrownAt}
use Rattle.extents.specs.Extents.{at_start}
use Rattle.choices.specs.Following.{entered}
use Rattle.memory.specs.Memory.{Recalls}

-- The set lies in the words; where the memory has room for a state, the set ascends, so that what is in it stays found; and what is
-- kept is true of the set.
pub record Walking (len : ℕ) (operand ls out states : List ℕ) : Type 0 where
  pub within : len ≤ length out
  pub rising : 2 < length states → Rising (set_at 0 len out)
  pub recalls : Recalls operand ls states (set_at 0 len out)

-- Labels are put in one after the other, and what is kept is true of the set with them.
pub record Walked (labels : List ℕ) (len : ℕ) (operand ls before after states : List ℕ) (r : Result ℕ TooLarge) : Type 0 where
  pub grown : GrownAt (at_start len) (λ room. entered room labels) before after r
  pub recalls : (n : ℕ) → r ≡ Ok n → Recalls operand ls states (set_at 0 n after)
