-- `arrivals::looking::both_quiet` meets its contract. Assumes nothing.
use mathlib.Core.Path.{sym, ◌∙◌}
use Rattle.arrivals.proofs.looking.both_quiet.Goals as goal

pub returns-then-is_empty : goal.returns-then-is_empty
returns-then-is_empty c =
    let left = sym (rw c.part_at.ensures at c.is_empty.ensures) ∙ c.if-is_empty.true in
    rw left (rw c.part_at-then-is_empty.ensures at c.is_empty-then-is_empty.ensures)

pub returns-else-is_empty : goal.returns-else-is_empty
returns-else-is_empty c =
    rw (sym (rw c.part_at.ensures at c.is_empty.ensures) ∙ c.if-is_empty.false)
