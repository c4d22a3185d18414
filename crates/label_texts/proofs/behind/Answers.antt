-- `label_texts::behind` meets its contract: the lowest digit of the upper word becomes the highest of the lower. Assumes nothing.
use native.Mathlib.Omega.{arith}
use Rattle.labels.specs.Packing.{code}
use Rattle.labels.proofs.Codes.{words-packed}
use Rattle.label_texts.proofs.behind.Goals as goal

pub returns : goal.returns
unfolding code
returns c = words-packed _ _ (omega arith) (omega arith)
