-- Whether nothing can be new in the set of a term: nothing is new in what it is made of.
-- Assumes nothing.
use Rattle.std.specs.Prelude.{Bool, true, not, ◌&&◌, List, ℕ}
use Rattle.extents.specs.Extents.{part_at, is_empty}
use Rattle.shapes.specs.declared.Shape.{Shape}
use Rattle.shapes.specs.declared.Shape.TheVariants.{Empty, Leaf, Body, One, Two, Joint, Through}
use Rattle.arrivals.specs.Arriving.{news_of}

-- A label by itself is new where the set is empty.
abbrev pub quiet : (sets news : List ℕ) (n : ℕ) → Shape → Bool
quiet sets news n Empty = true
quiet sets news n (Leaf label) = not (is_empty (part_at sets n))
quiet sets news n (Body e) = is_empty (part_at news (news_of e))
quiet sets news n (One t) = is_empty (part_at news t)
quiet sets news n (Two t u sums) = is_empty (part_at news t) && is_empty (part_at news u)
quiet sets news n (Joint t u) = is_empty (part_at news t) && is_empty (part_at news u)
quiet sets news n (Through o t) = is_empty (part_at news t)
