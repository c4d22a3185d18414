-- `lists::stores::put_label` meets its contract: the lower word first.
-- Assumes nothing.
use mathlib.Core.Path.{◌≡◌, ap, ap₂, ◌∙◌}
use Prim.Native.Nat.{◌+◌, ◌/◌, ◌%◌, ◌^◌}
use native.Mathlib.Omega.{arith}
use lib.ListN.{set}
use Rattle.labels.specs.Packing.{code}
use Rattle.lists.specs.Lists.{set_from}
use Rattle.lists.proofs.stores.put_label.Goals as goal

pub returns : goal.returns
unfolding code set_from
returns c =
    let a = c.args in
    let lower : a.label.lower % 2 ^ 60 ≡ code a.label % 2 ^ 60 = omega arith in
    let upper : a.label.upper ≡ code a.label / 2 ^ 60 = omega arith in
    c.put-2.ensures
    ∙ ap (λ l. set l (a.at + 1) a.label.upper) c.put.ensures
    ∙ ap₂ (λ x y. set (set a.store.now a.at x) (a.at + 1) y) lower upper
