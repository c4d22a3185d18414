-- The cut to the order, over the numbers of labels, of which tau's is 0 and always stays.
-- Assumes nothing.
use Rattle.std.specs.Prelude.{Bool, true, false, ◌||◌, List, [], ◌∷◌, ℕ, leb, length}
pub use Rattle.areas.specs.Areas.{put}
use Rattle.images.specs.Allowing.{allowed_in}

-- whether an order allows a label: `all` allows every one, a list what it lets pass
unfoldable pub allows : Bool → List ℕ → ℕ → Bool
allows all list w = all || allowed_in w list

unfoldable pub cut_labels : Bool → List ℕ → List ℕ → List ℕ
cut_labels all list [] = []
cut_labels all list (w ∷ ws) = elim (allows all list w) [ true ↦ w ∷ cut_labels all list ws | false ↦ cut_labels all list ws ]

-- all of it, or nothing where there is no room for the whole set
abbrev pub where_room : Bool → List ℕ → List ℕ
where_room true ws = ws
where_room false ws = []

-- of a set, where there is room for so many labels
abbrev pub cut_into : Bool → (list set : List ℕ) (room : ℕ) → List ℕ
cut_into all list set room = where_room (leb (length set) room) (cut_labels all list set)
