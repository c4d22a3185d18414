-- One round: all terms, and what is handed on to the next.
-- Assumes nothing.
use Rattle.std.specs.Prelude.{◌≡◌, Bool, false, not, ◌||◌, List, [], ◌∷◌, map, ℕ, suc, Result}
use Rattle.meaning.specs.Descriptions as D
use Rattle.table.specs.Encoded.{slot_of}
use Rattle.table.specs.Holding.{HoldsLists}
use Rattle.sets.specs.declared.TooLarge.{TooLarge}
use Rattle.extents.specs.Extents.{part_at, with_part, is_empty}
use Rattle.arrivals.specs.Arriving.{news_of}
use Rattle.advances.specs.Advances.{Midway, Kept, Onward}

-- All terms of the table of a legal description.
pub record Coursed (slots lists : List ℕ) (end : ℕ) (sets news work log out sets' news' work' log' out' : List ℕ) (r : Result ℕ TooLarge) : Type 0 where
  pub kept : Kept sets news work log out sets' news' work' log' out'
  pub right : (d : D.Description) (k : ℕ) → slots ≡ map slot_of d.terms → HoldsLists d lists → Midway d k 0 sets news work log out end
      → Onward d k (D.term_count d) sets' news' work' log' out' r

-- What is new in the bodies from the e-th equation on is entered for the equations; and whether there is anything.
unfoldable pub hand_on : ℕ → (bodies news : List ℕ) → List ℕ
hand_on e [] news = news
hand_on e (b ∷ bs) news = hand_on (suc e) bs (with_part news (news_of e) (part_at news b))

unfoldable pub some_new : ℕ → (bodies news : List ℕ) → Bool
some_new e [] news = false
some_new e (b ∷ bs) news = not (is_empty (part_at news b)) || some_new (suc e) bs (with_part news (news_of e) (part_at news b))

pub record HandedOn (bodies news news' : List ℕ) (r : Bool) : Type 0 where
  pub row : news' ≡ hand_on 0 bodies news
  pub some : r ≡ some_new 0 bodies news
