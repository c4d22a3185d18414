-- `areas::rows::write_label` meets its contract. Assumes nothing.
use mathlib.Core.Path.{◌≡◌, sym, ap, ◌∙◌}
use Prim.Native.Nat.{ℕ, ◌+◌, ◌*◌, ◌%◌, ◌^◌}
use native.Mathlib.Omega.{arith}
use lib.ListN.{set, length-set}
use lib.Seq.{set_out}
use Rattle.labels.specs.Packing.{code}
use Rattle.areas.specs.Rows.{held}
use Rattle.areas.proofs.Held.{length-held, held-set}
use Rattle.areas.proofs.rows.write_label.Goals as goal

pub bounds-words-at-then-i-words : goal.bounds-words-at-then-i-words
bounds-words-at-then-i-words c = simp length-set (omega arith)

pub returns-then-i-words : goal.returns-then-i-words
unfolding code
returns-then-i-words c =
    let a = c.args in
    let low = a.label.lower % 2 ^ 60 in
    let twice : low % 2 ^ 60 ≡ low = omega arith in
    held-set a.i a.words.now low a.label.upper ∙ ap (λ (l : ℕ). set (held a.words.now) a.i (l + 2 ^ 60 * a.label.upper)) twice

pub returns-else-i-words : goal.returns-else-i-words
returns-else-i-words c =
    let a = c.args in
    sym (set_out (held a.words.now) a.i (code a.label) (omega (arith, length-held a.words.now, c.if-i-words.false)))
