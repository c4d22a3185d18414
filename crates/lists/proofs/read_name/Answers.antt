-- `lists::read_name` meets its contract: looked for from the first name on.
-- Assumes nothing.
use Rattle.lists.proofs.Starts.{starts-alike}
use Rattle.lists.proofs.read_name.Goals as goal

pub name_from-requires : goal.name_from-requires
name_from-requires c = starts-alike _ 0

pub returns : goal.returns
returns c = c.name_from.ensures
