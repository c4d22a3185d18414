-- `arrivals::arriving::add_new_sums` meets its contract: the sums with a new label of the first set, and then those with one of the second.
-- Assumes nothing.
use Rattle.std.specs.Prelude.{Ok}
use mathlib.Core.Path.{sym, ◌∙◌}
use mathlib.Core.List.{List}
use Prim.Native.Nat.{ℕ}
use Rattle.areas.specs.Rows.{held}
use Rattle.sets.specs.Building.{GrownAt}
use Rattle.sets.proofs.Steps.{handed_on}
use Rattle.extents.specs.Extents.{at_start}
use Rattle.sums.specs.Sums.{sums_of}
use Rattle.arrivals.specs.Arriving.{labels_of}
use Rattle.arrivals.proofs.NewSums.{sums-all, sums-large, sums-last}
use Rattle.arrivals.proofs.arriving.add_new_sums.Goals as goal
use Rattle.arrivals.proofs.arriving.add_new_sums.Goals.{In_ok-count}

pub returns-in_err-count : goal.returns-in_err-count
returns-in_err-count c =
    let a = c.args in
    let news : ℕ → List ℕ = labels_of a.news.now (held a.log.now) in
    let sets : ℕ → List ℕ = labels_of a.sets.now (held a.work.now) in
    rw (handed_on c.from_residual.result c.from_residual.ensures.0)
    (sums-large (news a.t) (sets a.t) (news a.u) (sets a.u) a.len (held a.out.now) _
    (rw (c.labels_of-new.ensures, c.part_at.ensures, c.labels_of.ensures, c.part_at-3.ensures) at c.in_err-count.ensures))

-- the sums with a new label of the first set
first : (c : In_ok-count) →
    let a = c.args in
    let new = labels_of a.news.now (held a.log.now) a.t in
    let all = labels_of a.sets.now (held a.work.now) a.u in
    GrownAt (at_start a.len) (λ room. sums_of room new all) (held a.out.now) (held c.add_sums.new.out) (Ok c.in_ok-count.count)
first c =
    rw (c.labels_of-new.ensures, c.part_at.ensures, c.labels_of.ensures, c.part_at-3.ensures) at c.in_ok-count.ensures

pub returns-then-labels_in : goal.returns-then-labels_in
returns-then-labels_in c =
    let lengths = sym c.labels_in.ensures ∙ c.if-labels_in.true ∙ c.labels_in-2.ensures in
    let a = c.args in
    let news : ℕ → List ℕ = labels_of a.news.now (held a.log.now) in
    let sets : ℕ → List ℕ = labels_of a.sets.now (held a.work.now) in
    sums-all (news a.t) (sets a.t) (news a.u) (sets a.u) a.len (held a.out.now) _
    (rw (c.labels_of-new.ensures, c.part_at.ensures, c.labels_of-all.ensures, c.part_at-2.ensures) at lengths)
    (first (goal.at.returns-then-labels_in c).In_ok-count)

pub returns : goal.returns
returns c =
    let lengths = rw (
      c.labels_in.ensures,
      c.labels_in-2.ensures,
      c.labels_of-new.ensures,
      c.part_at.ensures,
      c.labels_of-all.ensures,
      c.part_at-2.ensures,
    ) at c.if-labels_in.false in
    let a = c.args in
    let news : ℕ → List ℕ = labels_of a.news.now (held a.log.now) in
    let sets : ℕ → List ℕ = labels_of a.sets.now (held a.work.now) in
    sums-last (news a.t) (sets a.t) (news a.u) (sets a.u) a.len (held a.out.now) _ lengths
    (first (goal.at.returns c).In_ok-count)
    (rw (c.labels_of-2.ensures, c.part_at-4.ensures, c.labels_of-all.ensures, c.part_at-2.ensures) at c.add_sums-2.ensures)
