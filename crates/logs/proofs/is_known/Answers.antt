-- `logs::is_known` meets its contract: the part that is searched is the whole set. Assumes nothing.
use mathlib.Core.Path.{ap, ◌∙◌}
use mathlib.Core.List.{List}
use Prim.Native.Nat.{ℕ}
use Rattle.areas.specs.Rows.{held}
use Rattle.labels.specs.Packing.{code}
use Rattle.sets.specs.Inserting.{present}
use Rattle.logs.proofs.LogSteps.{words-all}
use Rattle.logs.proofs.is_known.Goals as goal

pub returns : goal.returns
returns c =
    let a = c.args in
    let count = c.labels_in-end in
    c.contains.ensures
    ∙ ap (λ (l : List ℕ). present l (code a.label)) (words-all (held a.known.now) count.result count.ensures)
