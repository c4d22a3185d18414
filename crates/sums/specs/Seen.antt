-- A table of labels that a set is known to have.
-- Assumes nothing.
use Rattle.std.specs.Prelude.{◌≡◌, ℕ, ◌<◌, Bool, not, ◌&&◌, List, length, ◌==◌, ◌≢◌, slice_index, slice_index_or, Result, Ok}
use Rattle.meaning.specs.Sets.{◌∈◌, Rising}
use Rattle.parts.specs.Parts.{set_at}
use Rattle.sets.specs.declared.TooLarge.{TooLarge}
use Rattle.sets.specs.Building.{Building, GrownAt}
use Rattle.extents.specs.Extents.{at_start}

-- Whether a label stands in a slot; 0 there means that none does.
abbrev pub is_kept : List ℕ → ℕ → ℕ → Bool
is_kept seen at w = not (w == 0) && slice_index seen at == w

-- The set has the labels in the table; where the table has slots at all it ascends, so that what it has stays found.
pub record Kept (seen set : List ℕ) : Type 0 where
  pub rising : 0 < length seen → Rising set
  pub there : (at : ℕ) → (slice_index seen at ≢ 0) → slice_index_or seen at 0 ∈ set

-- The set at the start of the words is built, and if all went in, the table is one of labels that it then has.
pub record GrownKept (len : ℕ) (build : ℕ → List ℕ → Building) (before after seen : List ℕ) (r : Result ℕ TooLarge) : Type 0 where
  pub grown : GrownAt (at_start len) build before after r
  pub table : (n : ℕ) → r ≡ Ok n → Kept seen (set_at 0 n after)
