-- Labels in a row of words: two words hold one label.
-- Assumes nothing.
use Rattle.std.specs.Prelude.{◌&&◌, List, [], ◌∷◌, ◌++◌, ℕ, ◌+◌, ◌-◌, ◌*◌, ◌^◌, leb, ltb, length, take, drop}
use Rattle.meaning.specs.Labels.{lower_word}
use Rattle.meaning.specs.Rounds.{pick}

-- The numbers of the labels that the words hold, in the order in which they stand. They settle the words but for the four highest bits
-- of a lower word and a last word that has none beside it, which are no label's.
unfoldable pub held : List ℕ → List ℕ
held [] = []
held (lower ∷ []) = []
held (lower ∷ upper ∷ words) = (lower_word lower + 2 ^ 60 * upper) ∷ held words

-- The labels from one place up to another, each one place further up; the one at the second is lost. They move if the second
-- is a place of the list and not before the first.
unfoldable pub moved_up : ℕ → ℕ → List ℕ → List ℕ
moved_up from to ls =
    pick (leb from to && ltb to (length ls))
    (take (from + 1) ls ++ take (to - from) (drop from ls) ++ drop (to + 1) ls)
    ls
