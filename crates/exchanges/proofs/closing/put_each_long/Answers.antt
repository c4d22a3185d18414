-- `exchanges::closing::put_each_long` meets its contract: a set that ascends goes with a memory in which nothing is kept yet, and any
-- other with one that has no room. Assumes nothing.
use mathlib.Core.Path.{sym, subst, ◌∙◌}
use mathlib.Core.List.{[]}
use native.Mathlib.Omega.{arith}
use Rattle.areas.specs.Rows.{held}
use Rattle.areas.proofs.Held.{held-zeros, length-held}
use Rattle.sets.proofs.Presence.{rises→}
use Rattle.exchanges.specs.Following.{Walking}
use Rattle.exchanges.proofs.Walking.{alone-walking, fresh-walking}
use Rattle.exchanges.proofs.closing.put_each_long.Goals as goal

pub put_each-requires : goal.put_each-requires
put_each-requires c =
    let a = c.args in
    let operand = held a.operand.now in
    let rules = held a.rules.now in
    let out = held a.out.now in
    subst (Walking a.len operand rules out) (sym (held-zeros 12072))
    (fresh-walking a.len operand rules out 12072 c.requires (rises→ _ (sym c.ascends.ensures ∙ c.if-ascends.true)))

pub put_each-requires-2 : goal.put_each-requires-2
put_each-requires-2 c =
    let a = c.args in
    alone-walking a.len (held a.operand.now) (held a.rules.now) (held a.out.now) _ c.requires (omega (arith, length-held []))
