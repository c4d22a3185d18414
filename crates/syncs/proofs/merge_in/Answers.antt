-- `syncs::merge_in` meets its contract: only a sync is looked at, and both its operands decide.
-- Assumes nothing.
use mathlib.Core.Path.{◌≡◌, sym, ap, ap₂, ◌∙◌}
use mathlib.Core.Bool.{Bool, true, false, ◌&&◌}
use borrow.Enum.Refused.{opened}
use Rattle.syncs.specs.Merging.{multi_at, merge_of}
use Rattle.syncs.proofs.ByKind.{stays}
use Rattle.syncs.proofs.merge_in.Goals as goal

pub returns-in_default : goal.returns-in_default
returns-in_default c =
    let a = c.args in
    stays a.slots.now a.slot c.unpack.result (opened c.in_default.in_default-own.keys2)
    ∙ ap (merge_of a.slots.now a.slot) c.unpack.ensures

pub returns-then-is_multi-2 : goal.returns-then-is_multi-2
returns-then-is_multi-2 c =
    let slots = c.args.slots.now in
    let left : multi_at slots c.in-Sync.t ≡ true = sym c.is_multi.ensures ∙ c.if-is_multi.true in
    let right : multi_at slots c.in-Sync.u ≡ true = sym c.is_multi-then-is_multi.ensures ∙ c.if-is_multi-2.true in
    rw (sym c.unpack.ensures ∙ c.in-Sync.is, left, right)

pub returns : goal.returns
returns c =
    let slots = c.args.slots.now in
    let t = c.in-Sync.t in
    let u = c.in-Sync.u in
    let left = sym c.is_multi.ensures in
    let other : multi_at slots t && multi_at slots u ≡ false =
    elim c.else-is_multi.branch [
      | goal.else-is_multi-via-then-is_multi+else-is_multi-2 w ↦ ap₂ {C = Bool} ◌&&◌ (left ∙ w.if-is_multi.true)
          (sym w.is_multi-then-is_multi.ensures ∙ w.if-is_multi-2.false)
      | goal.else-is_multi-via-else-is_multi w ↦ ap (λ (b : Bool). b && multi_at slots u) (left ∙ w.if-is_multi.false)
    ] in
    c.pack.ensures ∙ rw (sym c.unpack.ensures ∙ c.in-Sync.is, other)
