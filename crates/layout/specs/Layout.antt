-- Where the sets of terms stand: in one half of the work area, in the order of the terms, each with some room behind it.
-- Assumes nothing.
use Rattle.std.specs.Prelude.{◌≡◌, ◌⊎◌, List, ℕ, zero, suc, ◌+◌, ◌*◌, ◌/◌, ◌≤◌, ◌<◌, eqb, length}
use Rattle.meaning.specs.Sets.{Rising}
use Rattle.meaning.specs.Rounds.{pick}
use Rattle.extents.specs.Extents.{part_at, words_in}
use Rattle.merging.specs.Joining.{joined}
use Rattle.layout.specs.Weaving.{Apart}

abbrev pub half_of : List ℕ → ℕ
half_of work = length work / 2

-- The row has a part for each of so many terms, and one more that begins where the half ends. It is the lower half if that is so.
pub record Standing (terms : ℕ) (sets : ℕ → List ℕ) (row work : List ℕ) : Type 0 where
  pub long : 2 * terms + 2 ≤ length row
  pub here : (t : ℕ) → t < terms → words_in (part_at row t) work ≡ sets t
  pub upright : (t : ℕ) → t < terms → (part_at row t).from ≤ (part_at row t).to
  pub apart : (t : ℕ) → t < terms → (part_at row t).to ≤ (part_at row (suc t)).from
  pub half : ((part_at row terms).from ≤ half_of work)
      ⊎ ((half_of work ≤ (part_at row 0).from) × (half_of work < (part_at row terms).from) × ((part_at row terms).from ≤ 2 * half_of work))

-- how many labels the sets of so many terms have together
unfoldable pub sizes : ℕ → (ℕ → List ℕ) → ℕ
sizes zero sets = 0
sizes (suc t) sets = sizes t sets + length (sets t)

-- the sets with new labels in one of them
abbrev pub joined_at : ℕ → List ℕ → (ℕ → List ℕ) → ℕ → List ℕ
joined_at n news sets t = pick (eqb t n) (joined (sets t) news) (sets t)

-- The set of the n-th term has the new labels, and the others stay as they are, wherever they stand then.
pub record Grows (terms n total : ℕ) (news row work row' work' : List ℕ) : Type 0 where
  pub long_row : length row' ≡ length row
  pub long_work : length work' ≡ length work
  pub right : (sets : ℕ → List ℕ) → Standing terms sets row work → n < terms → Rising (sets n) → Rising news → Apart (sets n) news
      → total ≡ sizes terms sets + length news → total ≤ half_of work → Standing terms (joined_at n news sets) row' work'
