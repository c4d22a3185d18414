-- `labels::bags::as_much` meets its contract. Assumes nothing.
use Rattle.std.proofs.Common.{sym, ◌∙◌}
use borrow.Author.Tests.{not-true, not-false}
use Rattle.labels.proofs.Codes.{as-much-codes}
use Rattle.labels.proofs.bags.as_much.Goals as goal

pub returns-then-not-word_has : goal.returns-then-not-word_has
returns-then-not-word_has c =
    let a = c.args in
    let first = c.word_has in
    sym (as-much-codes a.names a.a a.b ∙ rw (← first.ensures, not-true first.result c.if-not-word_has.true-raw))

pub returns : goal.returns
returns c =
    let a = c.args in
    let first = c.word_has in
    sym (as-much-codes a.names a.a a.b ∙ rw (← first.ensures, not-false first.result c.if-not-word_has.false-raw, ← c.word_has-2.ensures))
