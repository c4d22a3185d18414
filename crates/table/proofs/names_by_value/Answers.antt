-- `table::names_by_value` meets its contract. Assumes nothing.
use mathlib.Core.Path.{ap, ◌∙◌}
use mathlib.Core.List.{List, ◌++◌}
use Prim.Native.Nat.{ℕ, ◌≤◌}
use native.Mathlib.Omega.{arith}
use lib.ListN.{length, drop, replicate, length-take}
use Rattle.table.specs.Encoded.{filled}
use Rattle.table.proofs.Fillings.{filled-replicate, filled-front}
use Rattle.table.proofs.names_by_value.Goals as goal

pub returns : goal.returns
returns c =
    let given = c.names_of-given.result.now in
    let few : length given ≤ 24 = rw (c.names_of-given.ensures, length-take) (omega arith) in
    ap (λ (l : List ℕ). l ++ drop (length given) (replicate 24 0)) c.copy_from_slice.ensures.after
    ∙ ap (λ (l : List ℕ). given ++ drop (length given) l) (filled-replicate 0 24)
    ∙ filled-front 0 24 given few
    ∙ ap (filled 24 0) c.names_of-given.ensures
