-- What each way makes of a label, and what goes into a set of it.
-- Assumes nothing.
use Rattle.std.specs.Prelude.{◌≡◌, Bool, true, false, List, ℕ, ◌%◌, ◌^◌, get_or, Option, Some, None}
use Rattle.meaning.specs.Labels.{number, label_of, clear, without, renamed}
use Rattle.areas.specs.Rows.{held}
use Rattle.labels.specs.declared.Label.{Label}
use Rattle.labels.specs.Packing.{packed}
use Rattle.labels.specs.Bags.{bag}
use Rattle.areas.specs.Pairs.{pairs_in}
use Rattle.names.specs.Names.{targets}
use Rattle.sets.specs.Building.{Building, enter, taken}
use Rattle.rules.specs.Rules.{exchanges_in}
use Rattle.choices.specs.Following.{closed}
use Rattle.images.specs.Allowing.{allowed_in}
use Rattle.images.specs.declared.Way.{Way}
use Rattle.images.specs.declared.Way.TheVariants.{Copy, Block, Hide, Rename, Comm, Allow}

-- The list of a way as it takes it, by the words of the list: of comm and allow the labels, of the others the words themselves.
abbrev pub taken_by : Way → List ℕ → List ℕ
taken_by Copy words = words
taken_by Block words = words
taken_by Hide words = words
taken_by Rename words = words
taken_by Comm words = held words
taken_by Allow words = held words

-- What each way makes of a label, by its list; and whether rules are followed from there.
abbrev pub pick_offer : Bool → Option Label → Option Label
pick_offer true o = o
pick_offer false o = None

abbrev pub offer_of : Way → List ℕ → ℕ → Option Label
offer_of Copy list w = Some (packed w)
offer_of Block list w = pick_offer (clear list (bag w)) (Some (packed w))
offer_of Hide list w = Some (packed (number (without list (bag w))))
offer_of Rename list w = Some (packed (number (renamed 24 (λ n. get_or (targets (pairs_in list)) n 0) (label_of 24 w)) % 2 ^ 124))
offer_of Comm list w = Some (packed w)
offer_of Allow list w = pick_offer (allowed_in w list) (Some (packed w))

-- the map that a renaming goes by
abbrev pub MapFor : Way → (list map : List ℕ) → Type 0
MapFor Rename list map = map ≡ targets (pairs_in list)
MapFor Copy list map = Unit {0}
MapFor Block list map = Unit {0}
MapFor Hide list map = Unit {0}
MapFor Comm list map = Unit {0}
MapFor Allow list map = Unit {0}

abbrev pub follows_rules : Way → Bool
follows_rules Copy = false
follows_rules Block = false
follows_rules Hide = false
follows_rules Rename = false
follows_rules Comm = true
follows_rules Allow = false

-- What goes into a set of a label: what is offered for it; and where rules are followed, all that comes of it. `all` are the labels of
-- the operand.
abbrev pub offered : ℕ → Way → List ℕ → ℕ → List ℕ → Building
offered room way list w = taken (enter room) (offer_of way list w)

abbrev pub pick_image : Bool → (closed offered : ℕ → List ℕ → Building) → ℕ → List ℕ → Building
pick_image true closed offered = closed
pick_image false closed offered = offered

abbrev pub imaged : ℕ → Way → (list all : List ℕ) → ℕ → List ℕ → Building
imaged room way list all = pick_image (follows_rules way) (closed room all (exchanges_in list)) (offered room way list)
