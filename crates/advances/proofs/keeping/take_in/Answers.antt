-- `advances::keeping::take_in` meets its contract. Assumes nothing.
use mathlib.Core.Path.{sym, ◌∙◌}
use borrow.Author.Tests.{not-false}
use Rattle.advances.proofs.Keepings.{taken-nothing}
use Rattle.advances.proofs.keeping.take_in.Goals as goal

pub returns-then-not-is_empty : goal.returns-then-not-is_empty
returns-then-not-is_empty c =
    record { row = c.set_part.ensures; grown = rw c.labels_of.ensures at c.grow.ensures }

pub returns-else-not-is_empty : goal.returns-else-not-is_empty
returns-else-not-is_empty c =
    let none = not-false c.is_empty.result c.if-not-is_empty.false-raw in
    taken-nothing (sym c.is_empty.ensures ∙ none) c.set_part.ensures
