-- `arrivals::looking::is_quiet` meets its contract: each shape looks at what it is made of. Assumes nothing.
use mathlib.Core.Path.{ap}
use mathlib.Core.Bool.{not}
use Rattle.arrivals.proofs.looking.is_quiet.Goals as goal

pub returns-in-Leaf : goal.returns-in-Leaf
returns-in-Leaf c =
    rw c.in-Leaf.is (ap not (rw c.part_at.ensures at c.is_empty.ensures))

pub returns-in-Body : goal.returns-in-Body
returns-in-Body c =
    rw c.in-Body.is
    (rw (c.part_at-in-Body.ensures, c.news_of.ensures) at c.is_empty-in-Body.ensures)

pub returns-in-One : goal.returns-in-One
returns-in-One c = rw c.in-One.is (rw c.part_at-in-One.ensures at c.is_empty-in-One.ensures)

pub returns-in-Two : goal.returns-in-Two
returns-in-Two c = rw c.in-Two.is c.both_quiet.ensures

pub returns-in-Joint : goal.returns-in-Joint
returns-in-Joint c = rw c.in-Joint.is c.both_quiet-in-Joint.ensures

pub returns-in-Through : goal.returns-in-Through
returns-in-Through c = rw c.in-Through.is (rw c.part_at-in-Through.ensures at c.is_empty-in-Through.ensures)
