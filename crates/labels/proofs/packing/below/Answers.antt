-- `labels::packing::below` meets its contract: the order of labels is that of their upper words, and where these are the same that of
-- the lower ones. Assumes nothing.
use Rattle.std.proofs.Common.{◌%◌, ◌^◌, arith}
use Rattle.labels.specs.Packing.{code}
use Rattle.labels.proofs.Codes.{ltb-alike}
use Rattle.labels.proofs.packing.below.Goals as goal

pub returns-then-a-b : goal.returns-then-a-b
unfolding code
returns-then-a-b c =
    let a = c.args.a in
    let b = c.args.b in
    ltb-alike (a.lower % 2 ^ 60) (b.lower % 2 ^ 60) (code a) (code b) (omega arith)

pub returns-else-a-b : goal.returns-else-a-b
unfolding code
returns-else-a-b c =
    let a = c.args.a in
    let b = c.args.b in
    ltb-alike a.upper b.upper (code a) (code b) (omega arith)
