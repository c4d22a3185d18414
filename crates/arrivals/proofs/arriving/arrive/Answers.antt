-- `arrivals::arriving::arrive` meets its contract: one case for each shape. Assumes nothing.
use native.Mathlib.Omega.{arith}
use Rattle.areas.specs.Rows.{held}
use Rattle.images.proofs.Images.{taken-nothing}
use Rattle.arrivals.proofs.arriving.arrive.Goals as goal

pub returns-in-Empty : goal.returns-in-Empty
returns-in-Empty c =
    let a = c.args in
    rw c.in-Empty.is (taken-nothing 0 (held a.out.now) (omega arith))

pub returns-in-Leaf : goal.returns-in-Leaf
returns-in-Leaf c =
    rw c.in-Leaf.is (rw c.at_start.ensures at c.enter.ensures)

pub returns-in-Body : goal.returns-in-Body
returns-in-Body c =
    rw c.in-Body.is
    (rw (c.part_at.ensures, c.news_of.ensures) at c.copied.ensures)

pub returns-in-One : goal.returns-in-One
returns-in-One c =
    rw c.in-One.is (rw c.part_at-in-One.ensures at c.copied-in-One.ensures)

pub returns-in-Two : goal.returns-in-Two
returns-in-Two c = rw c.in-Two.is c.of_two.ensures

pub returns-in-Joint : goal.returns-in-Joint
returns-in-Joint c = rw c.in-Joint.is c.add_new_sums.ensures

pub returns-in-Through : goal.returns-in-Through
returns-in-Through c =
    rw c.in-Through.is
    (rw (c.labels_of.ensures, c.part_at-in-Through.ensures, c.labels_of-in-Through.ensures, c.part_at-in-Through-2.ensures) at c.through.ensures)
