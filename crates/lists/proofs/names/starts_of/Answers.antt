use mathlib.Core.Path.{refl, subst, ◌∙◌}
use Prim.Native.Nat.{◌-◌}
use native.Mathlib.Omega.{arith}
use lib.ListN.{length-set}
use Rattle.lists.specs.Starts.{StartingAt}
use Rattle.lists.proofs.Starts.{starts-alike, starts_more}
use Rattle.lists.proofs.names.starts_of.Goals as goal

pub loop-n-init : goal.loop-n-init
loop-n-init c = (refl, starts-alike _ _)

pub loop-n-preserved : goal.loop-n-preserved
loop-n-preserved c =
    let l = c.loop-n in
    let names = c.args.names.now in
    let letter = c.letter_of-letter.ensures in (
      length-set l.starts _ _ ∙ l.invariant.0,
      rw letter.0
          (starts_more names l.starts (l.n - 1) l.invariant.0 (omega arith) letter.1 (subst (StartingAt names l.starts) (omega arith) l.invariant.1)),
    )
