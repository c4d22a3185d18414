-- What the new labels of a term's operands give, over lists of numbers, each the number of a label. That with the set of the round
-- before it is the set of this round is a law: proofs/Arrivals.antt.
-- Assumes nothing.
use Rattle.std.specs.Prelude.{Bool, true, false, List, [], ℕ, ◌+◌, min, eqb, length, Result}
use Rattle.labels.specs.Packing.{code}
use Rattle.sets.specs.declared.TooLarge.{TooLarge}
use Rattle.sets.specs.Building.{Building, done, and_then, enter, GrownAt}
use Rattle.extents.specs.Extents.{part_at, words_in, at_start}
use Rattle.merging.specs.Joining.{in_one, cut_to}
use Rattle.sums.specs.Sums.{sums_of}
use Rattle.operators.specs.Operators.{way_for, words_for, passed}
use Rattle.shapes.specs.declared.Shape.{Shape}
use Rattle.shapes.specs.declared.Shape.TheVariants.{Empty, Leaf, Body, One, Two, Joint, Through}

-- the place of an equation in the row of new labels: behind the 96 terms
abbrev pub news_of : ℕ → ℕ
news_of e = 96 + min e 65536

-- what stands at a place of a row
abbrev pub labels_of : (row words : List ℕ) → ℕ → List ℕ
labels_of row words t = words_in (part_at row t) words

-- Every sum of labels of two sets of which one is new. Where as many labels of the first set are new as it has, all of them are.
abbrev pub unless_all : Bool → (List ℕ → Building) → List ℕ → Building
unless_all true more s = done s
unless_all false more s = more s

abbrev pub sums_new : (room : ℕ) (newA a new_b b : List ℕ) → List ℕ → Building
sums_new room newA a new_b b s = and_then (sums_of room newA b s) (unless_all (eqb (length newA) (length a)) (sums_of room new_b a))

-- The new labels of two sets, and if they are asked for every sum with one of them.
abbrev pub union_new : (room : ℕ) (newA new_b : List ℕ) → List ℕ → Building
union_new room newA new_b s = cut_to room (in_one newA new_b)

abbrev pub two_new : (sums : Bool) (room : ℕ) (newA a new_b b : List ℕ) → List ℕ → Building
two_new false room newA a new_b b s = union_new room newA new_b s
two_new true room newA a new_b b s = and_then (union_new room newA new_b s) (sums_new room newA a new_b b)

-- What is given for each shape of term, where `sets` are the sets and `news` what is new in them.
abbrev pub arriving : (room : ℕ) (lists : List ℕ) (sets news : ℕ → List ℕ) → Shape → List ℕ → Building
arriving room lists sets news Empty s = done s
arriving room lists sets news (Leaf label) s = enter room (code label) s
arriving room lists sets news (Body e) s = union_new room (news (news_of e)) [] s
arriving room lists sets news (One t) s = union_new room (news t) [] s
arriving room lists sets news (Two t u sums) s = two_new sums room (news t) (sets t) (news u) (sets u) s
arriving room lists sets news (Joint t u) s = sums_new room (news t) (sets t) (news u) (sets u) s
arriving room lists sets news (Through o t) s = passed room (way_for o) (words_for lists (news t) o) (news t) (sets t) s

abbrev pub Arrives : Shape → (lists work sets log news before after : List ℕ) → Result ℕ TooLarge → Type 0
Arrives shape lists work sets log news before after r =
    GrownAt (at_start 0) (λ room. arriving room lists (labels_of sets work) (labels_of news log) shape) before after r
