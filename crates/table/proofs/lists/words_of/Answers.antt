-- `table::lists::words_of` meets its contract.
-- Assumes nothing.
use native.Mathlib.Nat.{mul-one}
use Rattle.table.proofs.lists.words_of.Goals as goal

pub returns : goal.returns
returns c = rw (mul-one c.args.place.entries) c.list_part.ensures
