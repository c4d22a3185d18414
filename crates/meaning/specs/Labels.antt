-- Labels: bags of action names (docs/FORMAT.md, "Labels").
-- A label is the list of its counts, one for each name in the order of the names' numbers; a place past its end counts 0.
-- Assumes nothing.
use Prim.Native.Nat.{ℕ, zero, suc, ◌+◌, ◌*◌, ◌-◌, ◌/◌, ◌%◌, ◌^◌, compare, Ordering}
use Rattle.std.specs.Prelude.{Bool, true, ◌&&◌, List, [], ◌∷◌, leb, eqb, get_or, set, replicate}

abbrev pub Label : Type 0
Label = List ℕ

-- how often name n occurs
abbrev pub count : Label → ℕ → ℕ
count a n = get_or a n 0

-- how many actions
unfoldable pub size : Label → ℕ
size [] = 0
size (x ∷ a) = x + size a

-- The number of a label: the sum, over names n, of count(n) times 32 to the power n.
unfoldable pub number : Label → ℕ
number [] = 0
number (x ∷ a) = x + 32 * number a

-- A label's number stands in two words of 64 bits: what it leaves by 2 to the power 60 in the lower, where names 0 to 11 have five bits
-- each, and the rest in the upper. The words of labels stand one behind the other, of each the lower first.
abbrev pub lower_word : ℕ → ℕ
lower_word n = n % 2 ^ 60

abbrev pub upper_word : ℕ → ℕ
upper_word n = n / 2 ^ 60

unfoldable pub in_words : List ℕ → List ℕ
in_words [] = []
in_words (n ∷ ns) = lower_word n ∷ upper_word n ∷ in_words ns

-- The label over so many names that has this number.
unfoldable pub label_of : ℕ → ℕ → Label
label_of zero w = []
label_of (suc names) w = w % 32 ∷ label_of names (w / 32)

-- The empty bag, tau, over so many names; some actions of one name; the label of one action.
abbrev pub empty : ℕ → Label
empty names = replicate names 0

abbrev pub several : ℕ → ℕ → ℕ → Label
several names n times = set (empty names) n times

abbrev pub single : ℕ → ℕ → Label
single names n = several names n 1

unfoldable pub is_tau : Label → Bool
is_tau a = eqb (size a) 0

-- The sum of two labels.
unfoldable pub plus : Label → Label → Label
plus [] b = b
plus (x ∷ a) [] = x ∷ a
plus (x ∷ a) (y ∷ b) = (x + y) ∷ plus a b

-- Whether the first label lies inside the second, and what the second leaves of the first when it is taken away.
unfoldable pub inside : Label → Label → Bool
inside [] b = true
inside (x ∷ a) [] = eqb x 0 && inside a []
inside (x ∷ a) (y ∷ b) = leb x y && inside a b

unfoldable pub minus : Label → Label → Label
minus [] b = []
minus (x ∷ a) [] = x ∷ a
minus (x ∷ a) (y ∷ b) = (x - y) ∷ minus a b

-- Whether none of the listed names occurs, and the label without the listed names.
unfoldable pub clear : List ℕ → Label → Bool
clear [] a = true
clear (n ∷ ns) a = eqb (count a n) 0 && clear ns a

unfoldable pub without : List ℕ → Label → Label
without [] a = a
without (n ∷ ns) a = set (without ns a) n 0

-- Every name n of the label, from name `first` on, becomes `map n`, all at once.
unfoldable pub renamed_from : ℕ → ℕ → (ℕ → ℕ) → Label → Label
renamed_from first names map [] = empty names
renamed_from first names map (x ∷ a) = plus (several names (map first) x) (renamed_from (suc first) names map a)

abbrev pub renamed : ℕ → (ℕ → ℕ) → Label → Label
renamed names map a = renamed_from 0 names map a

-- The order of labels is that of their numbers: the last name decides, then the one before it. Said of the counts it also
-- holds apart labels of over 31 actions, whose numbers may fall together.
abbrev pub decided : Ordering → Ordering → Ordering
decided Ordering.lt o = Ordering.lt
decided Ordering.eq o = o
decided Ordering.gt o = Ordering.gt

unfoldable pub order : Label → Label → Ordering
order [] [] = Ordering.eq
order [] (y ∷ b) = Ordering.lt
order (x ∷ a) [] = Ordering.gt
order (x ∷ a) (y ∷ b) = decided (order a b) (compare x y)
