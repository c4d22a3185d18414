-- What is new in the sets of a round: this round's set less that of the round before.
-- Assumes nothing.
use Rattle.std.specs.Prelude.{Bool, not, ◌||◌, List, [], ℕ, zero, suc, ◌+◌, ltb, length}
use Rattle.meaning.specs.Labels.{Label}
use Rattle.meaning.specs.Sets.{at, member, spread, keep}
use Rattle.meaning.specs.Descriptions.{Description}
use Rattle.meaning.specs.Rounds.{pick, round_sets}
use Rattle.meaning.specs.Limits.{total, some_over}

-- the labels of a list that another does not have
abbrev pub less_labels : (labels known : List Label) → List Label
less_labels labels known = spread (keep (λ a. not (member a known))) labels

-- What is new in the set of a term in a round; in round 0 nothing is.
abbrev pub arrived : Description → ℕ → ℕ → List Label
arrived d zero t = []
arrived d (suc k) t = less_labels (at (round_sets d (suc k)) t) (at (round_sets d k) t)

-- While the round after round k is worked out: the sets of the first n terms are those of that round, the others those of round k.
abbrev pub mixed : Description → ℕ → ℕ → ℕ → List Label
mixed d k n t = pick (ltb t n) (at (round_sets d (suc k)) t) (at (round_sets d k) t)

-- Past a limit, where all sets together may have so many labels. With 2,048 it is `over`.
abbrev pub over_in : ℕ → List (List Label) → Bool
over_in most sets = some_over sets || ltb most (total sets)

-- how many labels the sets of so many terms have together
unfoldable pub labels_in : ℕ → (ℕ → List Label) → ℕ
labels_in zero sets = 0
labels_in (suc t) sets = labels_in t sets + length (sets t)
