-- `labels::bags::inside` meets its contract: word by word. Assumes nothing.
use Rattle.std.proofs.Common.{sym, ◌∙◌}
use Rattle.labels.proofs.Codes.{inside-codes}
use Rattle.labels.proofs.bags.inside.Goals as goal

pub returns-then-lends_nothing : goal.returns-then-lends_nothing
returns-then-lends_nothing c =
    let a = c.args in
    let first = c.lends_nothing in
    sym (inside-codes a.a a.b ∙ rw (← first.ensures, c.if-lends_nothing.true, ← c.lends_nothing-then-lends_nothing.ensures))

pub returns-else-lends_nothing : goal.returns-else-lends_nothing
returns-else-lends_nothing c =
    let a = c.args in
    let first = c.lends_nothing in
    sym (inside-codes a.a a.b ∙ rw (← first.ensures, c.if-lends_nothing.false))
