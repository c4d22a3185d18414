-- `table::lists::sized_words_of` meets its contract.
-- Assumes nothing.
use mathlib.Core.Path.{◌∙◌}
use Prim.Native.Nat.{◌*◌}
use native.Mathlib.Nat.{mul-le-mul_left}
use native.Mathlib.Omega.{arith}
use lib.ListN.{length}
use Rattle.table.proofs.Parts.{take_drop_all}
use Rattle.table.proofs.lists.sized_words_of.Goals as goal

pub overflow_mul-entries : goal.overflow_mul-entries
overflow_mul-entries c = omega (arith, mul-le-mul_left c.args.place.entries c.requires.1)

pub returns : goal.returns
returns c =
    let a = c.args in
    let lists = a.lists.now in
    c.list_part-2.ensures
    ∙ take_drop_all lists (64 * a.place.at) (length lists) (a.place.entries * a.size) (omega arith)
    (omega (arith, mul-le-mul_left a.place.entries c.requires.0))
