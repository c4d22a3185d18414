-- `operators::communicate` meets its contract: the rules are taken over and put in order, and no more words than they have are lent.
-- Assumes nothing.
use Prim.Native.Nat.{◌*◌, ◌/◌, ◌≤◌}
use native.Mathlib.Omega.{arith}
use lib.ListN.{length, length-take}
use Rattle.areas.specs.Rows.{held}
use Rattle.operators.proofs.Exchanged.{first-few, lent-rules}
use Rattle.operators.proofs.communicate.Goals as goal
use Rattle.operators.proofs.communicate.Goals.{After-first_rules-first}

few : (c : After-first_rules-first) → length c.first_rules-first.result.now ≤ 24
few c = first-few c.args.rules.now c.first_rules-first.result.now c.first_rules-first.ensures

pub overflow_mul-end : goal.overflow_mul-end
overflow_mul-end c = omega (arith, few (goal.at.overflow_mul-end c).After-first_rules-first)

pub exchanges-requires : goal.exchanges-requires
exchanges-requires c = few (goal.at.exchanges-requires c).After-first_rules-first

pub rules_for-list-requires : goal.rules_for-list-requires
rules_for-list-requires c = omega (arith, few (goal.at.rules_for-list-requires c).After-first_rules-first)

pub overflow_mul-list : goal.overflow_mul-list
overflow_mul-list c = omega (arith, few (goal.at.overflow_mul-list c).After-first_rules-first)

pub slice_bounds-list-end : goal.slice_bounds-list-end
slice_bounds-list-end c = omega (arith, few (goal.at.slice_bounds-list-end c).After-first_rules-first)

pub slice_bounds-close_each-end : goal.slice_bounds-close_each-end
slice_bounds-close_each-end c =
    omega (
      arith,
      few (goal.at.slice_bounds-close_each-end c).After-first_rules-first,
      length-take (2 * (length c.first_rules-first.result.now / 3 * 2)) c.rules_for-list.result,
    )

pub returns : goal.returns
returns c =
    rw (lent-rules (held c.args.labels.now) c.args.rules.now c.exchanges.result c.rules_for-list.result c.first_rules-first.ensures
    c.exchanges.ensures c.rules_for-list.ensures)
    at c.close_each.ensures
