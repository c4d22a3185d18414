-- `arrivals::arriving::joined` meets its contract: a copy where one set has nothing new, and else the union. Assumes nothing.
use mathlib.Core.Path.{sym, ap, subst, ◌∙◌}
use mathlib.Core.List.{List}
use Prim.Native.Nat.{ℕ}
use Rattle.areas.specs.Rows.{held}
use Rattle.sets.specs.Building.{GrownAt}
use Rattle.extents.specs.Extents.{words_in, at_start}
use Rattle.extents.proofs.Rows.{words-empty}
use Rattle.merging.specs.Joining.{in_one, cut_to}
use Rattle.merging.proofs.UnionLaws.{one-part}
use Rattle.arrivals.proofs.arriving.joined.Goals as goal

pub returns-then-is_empty : goal.returns-then-is_empty
returns-then-is_empty c =
    let a = c.args in
    rw (words-empty a.right (held a.log.now) (sym c.is_empty.ensures ∙ c.if-is_empty.true)) c.copied.ensures

pub returns-then-is_empty-2 : goal.returns-then-is_empty-2
returns-then-is_empty-2 c =
    let a = c.args in
    let ys = words_in a.right (held a.log.now) in
    let none = words-empty a.left (held a.log.now) (sym c.is_empty-2.ensures ∙ c.if-is_empty-2.true) in
    let same = ap (λ (xs : List ℕ). in_one xs ys) none ∙ one-part ys in
    let last = held c.copied-then-is_empty-2.new.out in
    subst (λ (u : List ℕ). GrownAt (at_start 0) (λ room s. cut_to room u) (held a.out.now) last c.copied-then-is_empty-2.result) (sym same)
    c.copied-then-is_empty-2.ensures
