-- What the calls promise: for a table, lists and an order that hold a legal description its answer, in words; and what they do to the
-- areas.
-- Assumes nothing.
use Rattle.std.specs.Prelude.{◌≡◌, ◌⊎◌, Bool, true, false, List, [], map, ℕ, ◌/◌, ◌≤◌, ◌<◌, length, Result, Ok, Err}
use Rattle.meaning.specs.Labels.{number, in_words}
use Rattle.meaning.specs.Descriptions as D
use Rattle.meaning.specs.Legal.{Legal}
use Rattle.meaning.specs.Answers.{Outcome, too_large, listed, answer}
use Rattle.sets.specs.declared.TooLarge.{TooLarge}
use Rattle.table.specs.declared.Order.{Order}
use Rattle.table.specs.declared.Order.TheVariants.{All, Only}
use Rattle.areas.specs.Rows.{held}
use Rattle.table.specs.Decoded.{words_at}
use Rattle.table.specs.Holding.{Holds, HoldsOrder}
use Rattle.cutting.specs.Cutting.{put, cut_into}
use Rattle.keeping.specs.Settling.{whole, alone}
use Rattle.rounds.specs.declared.Listed.{Listed}

-- A round count and a number of labels as the code answers them; an outcome, and the answer area after it.
abbrev pub listed_at : (rounds labels : ℕ) → Result Listed TooLarge
listed_at rounds labels = Ok (record { rounds = rounds; labels = labels })

abbrev pub alphabet_of : Outcome → Result Listed TooLarge
alphabet_of too_large = Err (record {})
alphabet_of (listed rounds labels) = listed_at rounds (length labels)

abbrev pub answer_area : Outcome → List ℕ → List ℕ
answer_area too_large area = area
answer_area (listed rounds labels) area = put (in_words (map number labels)) area

-- The call. Nothing is left in the work area: what is used of it is 0.
pub record Answered (table lists : List ℕ) (order : Order) (own work area work' area' : List ℕ) (r : Result Listed TooLarge) : Type 0 where
  pub short : (length work < whole) ⊎ (length area < 2048) → (r ≡ Err (record {})) × (work' ≡ work) × (area' ≡ area)
  pub right : (d : D.Description) (o : D.Order) → Legal d o → Holds d table lists → HoldsOrder o order own
      → whole ≤ length work → 2048 ≤ length area
      → (r ≡ alphabet_of (answer d o)) × (area' ≡ answer_area (answer d o) area) × (work' ≡ alone [] work)

-- The call in small areas: what is listed is right. Where there was no room nothing is written.
pub record AnsweredFew (table lists : List ℕ) (order : Order) (own area area' : List ℕ) (r : Result Listed TooLarge) : Type 0 where
  pub unchanged : r ≡ Err (record {}) → area' ≡ area
  pub right : (d : D.Description) (o : D.Order) → Legal d o → Holds d table lists → HoldsOrder o order own → (k n : ℕ) → r ≡ listed_at k n
      → (listed_at k n ≡ alphabet_of (answer d o)) × (area' ≡ answer_area (answer d o) area)

-- The call in areas of its own that are always enough: what is answered is right, and an answer's labels stand over what the rounds left in the
-- answer area.
pub record AnsweredOwn (table lists : List ℕ) (order : Order) (own area area' : List ℕ) (r : Result Listed TooLarge) : Type 0 where
  pub under : List ℕ
  pub right : (d : D.Description) (o : D.Order) → Legal d o → Holds d table lists → HoldsOrder o order own → 2048 ≤ length area
      → (r ≡ alphabet_of (answer d o)) × (area' ≡ answer_area (answer d o) under)

-- The order as the code takes it: whether it is `all`, and the labels of its list.
abbrev pub all_in : Order → Bool
all_in All = true
all_in (Only p) = false

abbrev pub list_in : List ℕ → Order → List ℕ
list_in own All = []
list_in own (Only p) = held (words_at own p 2)

-- A set cut to the order.
abbrev pub Listing : (set : List ℕ) → Order → (own area area' : List ℕ) (n : ℕ) → Type 0
Listing set order own area area' n =
    let labels = cut_into (all_in order) (list_in own order) set (length area / 2) in (area' ≡ put (in_words labels) area) × (n ≡ length labels)
