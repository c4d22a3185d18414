-- `labels::packing::tau` meets its contract: the words of the empty label are 0. Assumes nothing.
use Rattle.std.proofs.Common.{arith}
use Rattle.labels.proofs.Codes.{words-packed}
use Rattle.labels.proofs.packing.tau.Goals as goal

pub returns : goal.returns
returns c = words-packed 0 0 (omega arith) (omega arith)
