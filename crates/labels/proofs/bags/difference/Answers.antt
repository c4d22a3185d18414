-- `labels::bags::difference` meets its contract. Assumes nothing.
use Rattle.std.proofs.Common.{arith}
use Rattle.labels.specs.Packing.{code}
use Rattle.labels.proofs.Codes.{words-packed}
use Rattle.labels.proofs.bags.difference.Goals as goal

pub returns-then-a-b : goal.returns-then-a-b
unfolding code
returns-then-a-b c = words-packed _ _ (omega arith) (omega arith)

pub returns-then-small-large : goal.returns-then-small-large
unfolding code
returns-then-small-large c = words-packed _ _ (omega arith) (omega arith)

pub returns-then-upper-eq0 : goal.returns-then-upper-eq0
unfolding code
returns-then-upper-eq0 c = words-packed _ _ (omega arith) (omega arith)

pub returns : goal.returns
unfolding code
returns c = words-packed _ _ (omega arith) (omega arith)
