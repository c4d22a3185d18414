-- `table::lists::part_of` meets its contract.
-- Assumes nothing.
use Rattle.table.proofs.Parts.{take-drop-past, take_drop_all}
use native.Mathlib.Omega.{arith}
use native.Mathlib.Nat.{add-sub_cancel_left}
use Prim.Native.Nat.{◌-◌}
use lib.ListN.{length}
use Rattle.table.proofs.lists.part_of.Goals as goal

pub returns-then-words-at : goal.returns-then-words-at
returns-then-words-at c =
    let a = c.args in
    take-drop-past a.words.now a.at a.count (omega arith)

pub returns-then-count-words : goal.returns-then-count-words
returns-then-count-words c =
    let a = c.args in
    rw (add-sub_cancel_left a.at a.count)

pub returns : goal.returns
returns c =
    let a = c.args in
    let words = a.words.now in
    take_drop_all words a.at (length words - a.at) a.count (omega arith) (omega arith)
