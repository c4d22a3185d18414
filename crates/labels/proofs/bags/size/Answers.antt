-- `labels::bags::size` meets its contract: the empty label, a multiple of 31, or any other number. Assumes nothing.
use Rattle.std.proofs.Common.{arith}
use Rattle.labels.proofs.Sizes.{size-words}
use Rattle.labels.proofs.bags.size.Goals as goal

pub returns-then-total-eq0 : goal.returns-then-total-eq0
returns-then-total-eq0 c = (size-words c.args.a (omega arith)).0 c.if-total-eq0.true

pub returns-then-rest-eq0 : goal.returns-then-rest-eq0
returns-then-rest-eq0 c = (size-words c.args.a (omega arith)).1 c.if-total-eq0.false c.if-rest-eq0.true

pub returns-else-rest-eq0 : goal.returns-else-rest-eq0
returns-else-rest-eq0 c = (size-words c.args.a (omega arith)).2 c.if-rest-eq0.false
