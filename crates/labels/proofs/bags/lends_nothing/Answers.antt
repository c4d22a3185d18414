-- `labels::bags::lends_nothing` meets its contract. Assumes nothing.
use Rattle.std.proofs.Common.{arith}
use Rattle.labels.proofs.Borrows.{lent, lends_nothing, larger-outside}
use Rattle.labels.proofs.bags.lends_nothing.Goals as goal

pub returns-then-large-small : goal.returns-then-large-small
returns-then-large-small c = let a = c.args in larger-outside 13 a.small a.large (omega arith) (omega arith)

pub returns : goal.returns
unfolding lent
returns c = let a = c.args in lends_nothing 12 a.small a.large (omega arith) (omega arith)
