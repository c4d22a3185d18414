-- `exchanges::following::put` and `follow`: a rule that leads on leaves less, so the measure is twice what is left, and one more in
-- `put`. The invariant of the loop over the rules is `Following`, its measure the place up to which they are to come.
-- Assumes nothing.
use Rattle.std.proofs.Common.{◌+◌, ◌≡◌, ◌*◌, length}
use Rattle.areas.specs.Rows.{held}
use Rattle.labels.specs.Packing.{code}
use Rattle.exchanges.proofs.RuleByRule.{Following}
use Rattle.exchanges.proofs.following.+follow_put.Given as goal

abbrev pub decreases-follow : goal.decreases-follow
decreases-follow l = 2 * code l.state.rest

abbrev pub decreases-put : goal.decreases-put
decreases-put l = 2 * code l.state.rest + 1

abbrev pub invariant-follow-loop-i : goal.invariant-follow-loop-i
invariant-follow-loop-i l =
    Following l.len (code l.state.rest) (code l.state.sum) (held l.operand) (held l.rules) (held l.initial.out) l.before (held l.states) (held l.out)
    l.count l.i
    × (length l.states ≡ length l.initial.states) × (length l.out ≡ length l.initial.out)

abbrev pub decreases-follow-loop-i : goal.decreases-follow-loop-i
decreases-follow-loop-i l = l.i
