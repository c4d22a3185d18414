-- The steps by which the sets of terms are laid anew, and by which one of them grows where it stands.
-- Assumes nothing.
use Rattle.std.specs.Prelude.{◌≡◌, ◌⊎◌, Bool, true, false, List, ℕ, suc, ◌+◌, ◌-◌, ◌/◌, ◌≤◌, ◌<◌, length}
use Rattle.parts.specs.declared.Part.{Part}
use Rattle.parts.specs.Parts.{laid}
use Rattle.extents.specs.Extents.{part_at, with_part, words_in}
use Rattle.layout.specs.Weaving.{Woven}
use Rattle.layout.specs.Layout.{Standing, half_of, sizes}

-- An answer that tells whether something holds.
pub record Tells (r : Bool) (P : Type 0) : Type 0 where
  pub yes : r ≡ true → P
  pub no : r ≡ false → P → ⊥

-- A set stands in the first so many words outside a half and has room in it from a place on.
pub record Movable (start end at : ℕ) (p : Part) (limit : ℕ) : Type 0 where
  pub upright : p.from ≤ p.to
  pub there : p.to ≤ limit
  pub fits : at + (p.to - p.from) ≤ end
  pub outside : (p.to ≤ start) ⊎ (end ≤ p.from)

-- If so, it is moved to that place, and `r` is where it ends there.
pub record Moved (t start end at : ℕ) (row work row' work' : List ℕ) (r : ℕ) : Type 0 where
  pub long_row : length row' ≡ length row
  pub long_work : length work' ≡ length work
  pub within : (start ≤ r) × (r ≤ end)
  pub right : let p = part_at row t in Movable start end at p (length work)
      → (work' ≡ laid at (words_in p work) work) × (row' ≡ with_part row t (record { from = at; to = r })) × (r ≡ at + (p.to - p.from))

-- The half that is free begins at 0 or where the lower one ends, by where the sets end.
abbrev pub Free : (half last start : ℕ) → Type 0
Free half last start = ((last ≤ half) × (start ≡ half)) ⊎ ((half < last) × (start ≡ 0))

-- The room behind each set is the same share of what the labels leave.
pub record Gap (half total terms r : ℕ) : Type 0 where
  pub small : r ≤ half
  pub share : total ≤ half → 0 < terms → r ≡ (half - total) / terms

-- The sets stand as they stood, and the n-th has room behind it for so many more labels.
pub record Roomy (terms n more : ℕ) (sets : ℕ → List ℕ) (row work : List ℕ) : Type 0 where
  pub stands : Standing terms sets row work
  pub room : (part_at row n).to + more ≤ (part_at row (suc n)).from

pub record RoomMade (terms n total more : ℕ) (row work row' work' : List ℕ) : Type 0 where
  pub long_row : length row' ≡ length row
  pub long_work : length work' ≡ length work
  pub right : (sets : ℕ → List ℕ) → Standing terms sets row work → n < terms → total ≡ sizes terms sets + more → total ≤ half_of work
      → Roomy terms n more sets row' work'

-- New labels are woven into the n-th set, if it has room for them in the words.
pub record WovenInto (n : ℕ) (news row work row' work' : List ℕ) : Type 0 where
  pub long_row : length row' ≡ length row
  pub long_work : length work' ≡ length work
  pub right : let p = part_at row n in p.from ≤ p.to → p.to + length news ≤ length work
      → Woven p.from p.to news work work' × (row' ≡ with_part row n (record { from = p.from; to = p.to + length news }))
