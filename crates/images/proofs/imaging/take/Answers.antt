-- `images::imaging::take` meets its contract. Assumes nothing.
use Rattle.areas.specs.Rows.{held}
use Rattle.extents.proofs.RowWalks.{enter-start}
use Rattle.images.proofs.Images.{taken-nothing}
use Rattle.images.proofs.imaging.take.Goals as goal

pub returns-in-None : goal.returns-in-None
returns-in-None c =
    rw c.in-None.is (taken-nothing c.args.len (held c.args.out.now) c.requires)
