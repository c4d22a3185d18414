-- `tally::added` meets its contract: 18 comes before 17, and each leaves the tally as it was.
-- Assumes nothing.
use mathlib.Core.Path.{sym, ◌∙◌}
use Rattle.tally.proofs.Cases.{not-given, no_room, taken_in}
use Rattle.tally.proofs.added.Goals as goal

pub returns-then-not-is_given : goal.returns-then-not-is_given
returns-then-not-is_given c =
    let a = c.args in
    not-given a.tally a.verdict (sym c.is_given.ensures ∙ c.if-not-is_given.true)

pub returns-then-not-has_room : goal.returns-then-not-has_room
returns-then-not-has_room c =
    let a = c.args in
    no_room a.tally a.verdict (sym c.is_given.ensures ∙ c.if-not-is_given.false)
    (sym c.has_room.ensures ∙ c.if-not-has_room.true)

pub returns : goal.returns
returns c =
    let a = c.args in
    let in-it = taken_in a.tally a.verdict (sym c.is_given.ensures ∙ c.if-not-is_given.false)
    (sym c.has_room.ensures ∙ c.if-not-has_room.false) in
    (c.counting.ensures ∙ in-it.0, in-it.1)
