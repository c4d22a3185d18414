-- `operators::through` meets its contract: each operator goes its way, with its list; that of comm holds rules, and that of allow labels.
-- Assumes nothing.
use mathlib.Core.Path.{◌≡◌, refl}
use mathlib.Core.List.{List, [], ◌∷◌}
use Prim.Native.Nat.{ℕ}
use types.Run.{OneOf, miss}
use borrow.Enum.Refused.{opened}
use denote.Enum.Declared.{tag_of}
use Rattle.slots.specs.declared.Operator.{Operator}
use Rattle.slots.specs.declared.Operator.TheVariants.{Block, Hide, Rename, Comm, Allow}
use Rattle.slots.specs.contracts.Operator.{the_type}
use Rattle.table.specs.Decoded.{words_at}
use Rattle.areas.specs.Rows.{held}
use Rattle.images.specs.Imaging.{taken_by}
use Rattle.operators.specs.Operators.{way_for, place_for, words_for}
use Rattle.operators.proofs.through.Goals as goal

-- the list of every other operator has a word an entry, and its way takes it as it stands
plain : (lists labels : List ℕ) (o : Operator) → OneOf (0 ∷ 1 ∷ 2 ∷ []) (tag_of the_type o)
    → taken_by (way_for o) (words_at lists (place_for o) 1) ≡ words_for lists labels o
plain lists labels (Block p) h = refl
plain lists labels (Hide p) h = refl
plain lists labels (Rename p) h = refl
plain lists labels (Comm p) h = absurd (miss (0 ∷ 1 ∷ 2 ∷ []) 3 tt h)
plain lists labels (Allow p) h = absurd (miss (0 ∷ 1 ∷ 2 ∷ []) 4 tt h)

pub returns-in-Comm : goal.returns-in-Comm
returns-in-Comm c = rw c.in-Comm.is (rw (c.rule_words_of.ensures, c.list_place-place.ensures, c.in-Comm.is) at c.communicate.ensures)

pub returns-in-Allow : goal.returns-in-Allow
returns-in-Allow c = rw c.in-Allow.is (rw (c.label_words_of.ensures, c.list_place-place.ensures, c.in-Allow.is) at c.add_image.ensures)

pub returns-in_default : goal.returns-in_default
returns-in_default c =
    let a = c.args in
    rw (
      c.way_of.ensures,
      c.words_of.ensures,
      c.list_place-place.ensures,
      plain a.lists.now (held a.labels.now) a.operator (opened c.in_default.in_default-own.keys3),
    ) at c.add_image-in_default.ensures
