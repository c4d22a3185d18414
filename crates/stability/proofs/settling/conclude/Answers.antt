-- `stability::settling::conclude` meets its contract: 0 alone, or the root's set.
-- Assumes nothing.
use mathlib.Core.Path.{refl, ap}
use Rattle.stability.specs.Endings.{found_at}
use Rattle.stability.proofs.settling.conclude.Goals as goal

pub returns-in_default : goal.returns-in_default
returns-in_default c = rw c.in_default.is (refl, c.clear.ensures)

pub returns : goal.returns
returns c =
    let kept = rw c.part_at.ensures at c.settle-labels.ensures in
    rw c.in-Ok.is (λ end. let settled = kept.within c.requires end in (ap (found_at c.in-Ok.rounds) settled.0, settled.1))
