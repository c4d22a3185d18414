-- A label of an operand with all that comes of it by rules.
-- Assumes nothing.
use Rattle.std.specs.Prelude.{List, [], ◌∷◌, ◌++◌, ℕ, zero, suc, Option, Some, None}
use Rattle.labels.specs.Packing.{code}
use Rattle.sets.specs.Building.{Building, each, enter}
use Rattle.rules.specs.declared.State.{State}
use Rattle.rules.specs.Rules.{Exchange, step_of}

-- A rule as it stands in a list of labels.
abbrev pub sides : Exchange → List ℕ
sides r = r.left ∷ r.right ∷ []

-- what goes on from where a rule leads
abbrev pub after : (ℕ → ℕ → List ℕ) → Option State → List ℕ
after more None = []
after more (Some s) = more (code s.rest) (code s.sum)

-- Each rule in turn; after an application of one, that rule and those behind it. `all` are the labels of the operand.
unfoldable pub each_rule : (List Exchange → ℕ → ℕ → List ℕ) → List ℕ → List Exchange → ℕ → ℕ → List ℕ
each_rule more all [] rest sum = []
each_rule more all (r ∷ rs) rest sum = after (more (r ∷ rs)) (step_of all r rest sum) ++ each_rule more all rs rest sum

-- The labels that come of a state, its own first, by at most so many applications. They are listed in the order of the walk, since
-- that decides which of them are in a set when its room runs out.
unfoldable pub followed : ℕ → List ℕ → List Exchange → ℕ → ℕ → List ℕ
followed zero all rs rest sum = sum ∷ []
followed (suc more) all rs rest sum = sum ∷ each_rule (followed more all) all rs rest sum

-- Every application takes something of what is left, so there are no more of them than its number. That over all labels of an
-- operand these labels are what communication makes of it: `comm-outcome` in proofs/Communication.antt.
abbrev pub comes_of : List ℕ → List Exchange → ℕ → ℕ → List ℕ
comes_of all rs rest sum = followed rest all rs rest sum

-- labels put into a set one after the other, and those that come of a label
abbrev pub entered : ℕ → List ℕ → List ℕ → Building
entered room ws = each (enter room) ws

abbrev pub closed : ℕ → List ℕ → List Exchange → ℕ → List ℕ → Building
closed room all rs w = entered room (comes_of all rs w w)
