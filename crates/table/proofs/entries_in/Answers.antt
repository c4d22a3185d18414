-- `table::entries_in` meets its contract.
-- Assumes nothing.
use mathlib.Core.Path.{ap, ◌∙◌}
use Prim.Native.Nat.{ℕ, min}
use lib.ListN.{take, drop}
use Rattle.table.proofs.entries_in.Goals as goal

pub returns : goal.returns
returns c =
    let a = c.args in
    let table = a.table.now in
    c.part_of.ensures
    ∙ ap (λ (n : ℕ). take n (drop a.from table)) (c.min.ensures ∙ ap (λ (n : ℕ). min n a.most) c.word_at-entries.ensures)
