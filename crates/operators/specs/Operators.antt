-- The ways of operators, with their lists from those of the terms.
-- Assumes nothing.
use Rattle.std.specs.Prelude.{List, ℕ, take, Result}
use Rattle.slots.specs.declared.Operator.{Operator}
use Rattle.slots.specs.declared.Place.{Place}
use Rattle.slots.specs.declared.Operator.TheVariants as O
use Rattle.table.specs.Decoded.{words_at}
use Rattle.areas.specs.Rows.{held}
use Rattle.images.specs.declared.Way.{Way}
use Rattle.images.specs.declared.Way.TheVariants.{Block, Hide, Rename, Comm, Allow}
use Rattle.sets.specs.declared.TooLarge.{TooLarge}
use Rattle.sets.specs.Building.{Building, each, GrownAt}
use Rattle.extents.specs.Extents.{at_start}
use Rattle.ordering.specs.Ordering.{rules_for}
use Rattle.images.specs.Imaging.{imaged}
use Rattle.operators.specs.Exchanging.{exchange_labels}

-- The way of an operator, where its list stands, and its list as the way takes it: of rules, the first eight.
abbrev pub rule_list : List ℕ → List ℕ
rule_list ws = exchange_labels (take 24 ws)

abbrev pub way_for : Operator → Way
way_for (O.Block p) = Block
way_for (O.Hide p) = Hide
way_for (O.Rename p) = Rename
way_for (O.Comm p) = Comm
way_for (O.Allow p) = Allow

abbrev pub place_for : Operator → Place
place_for (O.Block p) = p
place_for (O.Hide p) = p
place_for (O.Rename p) = p
place_for (O.Comm p) = p
place_for (O.Allow p) = p

-- rules in the order in which they are followed from some labels
abbrev pub words_for : (lists labels : List ℕ) → Operator → List ℕ
words_for lists labels (O.Block p) = words_at lists p 1
words_for lists labels (O.Hide p) = words_at lists p 1
words_for lists labels (O.Rename p) = words_at lists p 1
words_for lists labels (O.Comm p) = rules_for labels (rule_list (words_at lists p 3))
words_for lists labels (O.Allow p) = held (words_at lists p 2)

-- what a way makes of labels of an operand goes into a set at the start of words of its own
abbrev pub passed : ℕ → Way → (list labels operand : List ℕ) → List ℕ → Building
passed room way list labels operand s = each (imaged room way list operand) labels s

abbrev pub Passes : Way → (list labels operand before after : List ℕ) → Result ℕ TooLarge → Type 0
Passes way list labels operand before after r = GrownAt (at_start 0) (λ room. passed room way list labels operand) before after r
