use mathlib.Core.Path.{◌≡◌, refl, ap, ◌∙◌}
use Prim.Native.Nat.{ℕ}
use native.Mathlib.Numerals.{add-one}
use native.Mathlib.Omega.{arith}
use mathlib.Core.List.{List}
use lib.ListN.{length, get_or, set}
use Rattle.syncs.specs.Merging.{merge_in, merged_to}
use Rattle.syncs.proofs.merge_wholes.Goals as goal

pub loop-n-init : goal.loop-n-init
unfolding merged_to
loop-n-init c = refl

pub loop-n-preserved : goal.loop-n-preserved
unfolding merged_to
loop-n-preserved c =
    let l = c.loop-n in
    ap (set l.slots l.n) c.merge_in.ensures ∙ rw (add-one l.n) (ap (λ (s : List ℕ). set s l.n (merge_in s (get_or s l.n 0))) l.invariant)

pub returns : goal.returns
returns c =
    let l = c.loop-n in
    let end : l.n ≡ length c.args.slots.now = omega (arith, l.auto.n-end, c.loop-n-test) in
    l.invariant ∙ ap (λ (i : ℕ). merged_to i c.args.slots.now) end
