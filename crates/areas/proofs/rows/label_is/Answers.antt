-- `areas::rows::label_is` meets its contract. Assumes nothing.
use mathlib.Core.Path.{ap, ◌∙◌}
use Prim.Native.Nat.{ℕ}
use lib.Dec.{eqb}
use Rattle.labels.specs.Packing.{code}
use Rattle.labels.proofs.Codes.{code_of}
use Rattle.areas.proofs.rows.label_is.Goals as goal

pub returns : goal.returns
returns c = c.same.ensures ∙ ap (λ (w : ℕ). eqb w (code c.args.label)) (code_of c.read_label.ensures)
