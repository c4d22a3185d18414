-- `labels::bags::joined` meets its contract: the lower words together, and the upper ones with what those carry. Assumes nothing.
use Rattle.std.proofs.Common.{arith}
use Rattle.labels.specs.Packing.{code}
use Rattle.labels.proofs.Codes.{words-packed}
use Rattle.labels.proofs.bags.joined.Goals as goal

pub returns : goal.returns
unfolding code
returns c = words-packed _ _ (omega arith) (omega arith)
