-- `sums::sum_of` meets its contract. Assumes nothing.
use Rattle.std.proofs.Common.{◌+◌, le-ltb}
use Rattle.labels.specs.Packing.{code}
use Rattle.labels.specs.Bags.{size_of, sum_of}
use Rattle.sums.proofs.sum_of.Goals as goal

pub returns-then-fits : goal.returns-then-fits
unfolding sum_of
returns-then-fits c =
    let actions = size_of (code c.args.a) + size_of (code c.args.b) in
    rw (le-ltb 31 actions (c.requires c.if-fits.true), ← c.joined.ensures)
