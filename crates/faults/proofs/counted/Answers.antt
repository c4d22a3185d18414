-- `faults::counted` meets its contract: the entry's fault, its place in the order and the sum of the weights, one after the other.
-- Assumes nothing.
use mathlib.Core.Path.{ap, ◌∙◌}
use Prim.Native.Nat.{ℕ, ◌+◌, ◌%◌, ◌^◌}
use Rattle.labels.specs.Packing.{code, packed}
use Rattle.labels.proofs.Codes.{code_of}
use Rattle.faults.proofs.Ranks.{not-below}
use Rattle.faults.proofs.counted.Goals as goal

pub returns : goal.returns
returns c =
    let a = c.args in
    let ordered = c.below.ensures in
    record {
      faults = c.joined.ensures ∙ rw (c.saturating_add-total.ensures, ordered, not-below (code a.key) (code a.t.floor));
      floors = c.joined-2.ensures ∙ ap (λ (n : ℕ). packed ((code a.key + n) % 2 ^ 124)) (code_of c.label_of.ensures);
      totals = rw (c.min.ensures, c.saturating_add.ensures, c.saturating_add-total.ensures);
    }
