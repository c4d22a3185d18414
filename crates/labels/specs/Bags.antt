-- The bag that a number stands for, its size, and the sum of two.
-- Assumes nothing.
use Rattle.std.specs.Prelude.{ℕ, ◌+◌, ◌-◌, ◌*◌, ◌/◌, ◌%◌, ◌^◌, Bool, true, ◌&&◌, ◌||◌, [], ◌∷◌, ◌==◌, nat_le, nat_lt, Option, Some, None}
use Rattle.meaning.specs.Labels.{label_of, size}
use Rattle.meaning.specs.Labels as meaning
use Rattle.meaning.specs.Rounds.{pick}
use Rattle.labels.specs.declared.Label.{Label}
use Rattle.labels.specs.Packing.{packed}

-- The digits to base 32 of a number that two words hold, of which 124 bits have 25: every such number is that of this bag.
abbrev pub bag : ℕ → meaning.Label
bag w = label_of 25 w

-- A size that five bits hold: up to 31 it is the size itself, and beyond that the size less the largest multiple of 31 below it.
abbrev pub folded : ℕ → ℕ
folded s = pick (nat_le s 31) s (s - 31 * ((s - 1) / 31))

-- How many actions a number's bag has. A number of over 31 is no label's.
unfoldable pub size_of : ℕ → ℕ
size_of w = folded (size (bag w))

-- The sum of two; none where it has over 31 actions.
unfoldable pub sum_of : ℕ → ℕ → Option Label
sum_of a b = pick (nat_lt 31 (size_of a + size_of b)) None (Some (packed ((a + b) % 2 ^ 124)))

-- Whether the third label has no fewer than the second of each name that the first has.
unfoldable pub as_much : meaning.Label → meaning.Label → meaning.Label → Bool
as_much [] a b = true
as_much (n ∷ names) [] b = true
as_much (n ∷ names) (x ∷ a) [] = true
as_much (n ∷ names) (x ∷ a) (y ∷ b) = (n == 0 || nat_le x y) && as_much names a b
