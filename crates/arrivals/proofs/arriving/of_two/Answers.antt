-- `arrivals::arriving::of_two` meets its contract: the new labels, and then the sums. Assumes nothing.
use Rattle.std.specs.Prelude.{Ok}
use mathlib.Core.List.{List}
use Prim.Native.Nat.{ℕ}
use Rattle.areas.specs.Rows.{held}
use Rattle.sets.specs.Building.{GrownAt}
use Rattle.sets.proofs.Steps.{handed_on}
use Rattle.extents.specs.Extents.{at_start}
use Rattle.arrivals.specs.Arriving.{labels_of, union_new}
use Rattle.arrivals.proofs.NewSums.{two-large, two-last}
use Rattle.arrivals.proofs.arriving.of_two.Goals as goal
use Rattle.arrivals.proofs.arriving.of_two.Goals.{In_ok-count}

pub returns-in_err-count : goal.returns-in_err-count
returns-in_err-count c =
    let a = c.args in
    let news : ℕ → List ℕ = labels_of a.news.now (held a.log.now) in
    let sets : ℕ → List ℕ = labels_of a.sets.now (held a.work.now) in
    rw (handed_on c.from_residual.result c.from_residual.ensures.0)
    (two-large (news a.t) (sets a.t) (news a.u) (sets a.u) (held a.out.now) _ a.sums
    (rw (c.part_at.ensures, c.part_at-2.ensures) at c.in_err-count.ensures))

-- the new labels of both
union : (c : In_ok-count) →
    let a = c.args in
    let news : ℕ → List ℕ = labels_of a.news.now (held a.log.now) in
    GrownAt (at_start 0) (λ room. union_new room (news a.t) (news a.u)) (held a.out.now) (held c.joined.new.out)
    (Ok c.in_ok-count.count)
union c = rw (c.part_at.ensures, c.part_at-2.ensures) at c.in_ok-count.ensures

pub returns-then-sums : goal.returns-then-sums
returns-then-sums c =
    let a = c.args in
    let news : ℕ → List ℕ = labels_of a.news.now (held a.log.now) in
    let sets : ℕ → List ℕ = labels_of a.sets.now (held a.work.now) in
    rw c.if-sums.true
    (two-last (news a.t) (sets a.t) (news a.u) (sets a.u) (held a.out.now) _ (union (goal.at.returns-then-sums c).In_ok-count)
    c.add_new_sums.ensures)

pub returns-else-sums : goal.returns-else-sums
returns-else-sums c = rw c.if-sums.false (union (goal.at.returns-else-sums c).In_ok-count)
