-- The rules of comm as pairs of labels: the left side, and the label of the one action on the right.
-- Assumes nothing.
use Rattle.std.specs.Prelude.{List, [], ◌∷◌, ◌++◌, ℕ, ◌+◌, ◌-◌, ◌*◌, ◌^◌, length, replicate}
use Rattle.meaning.specs.Labels.{lower_word, number, single}

-- Of the three words of each rule the numbers of two labels.
unfoldable pub exchange_labels : List ℕ → List ℕ
exchange_labels [] = []
exchange_labels (lower ∷ []) = []
exchange_labels (lower ∷ upper ∷ []) = []
exchange_labels (lower ∷ upper ∷ right ∷ ws) = (lower_word lower + 2 ^ 60 * upper) ∷ number (single 24 right) ∷ exchange_labels ws

-- in room for sixteen labels, which hold eight rules
abbrev pub exchange_list : List ℕ → List ℕ
exchange_list ws = exchange_labels ws ++ replicate (16 - length (exchange_labels ws)) 0
