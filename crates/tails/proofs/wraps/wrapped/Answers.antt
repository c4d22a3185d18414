-- `tails::wraps::wrapped` meets its contract: the operator of the kind, with its list's place.
-- Assumes nothing.
use mathlib.Core.Path.{ap, ◌∙◌}
use Rattle.slots.specs.Packing.{operator_at}
use Rattle.slots.specs.declared.Term.TheVariants.{Wrap}
use Rattle.tails.proofs.wraps.wrapped.Goals as goal

pub returns : goal.returns
returns c =
    let a = c.args in
    ap (λ o. Wrap o a.t)
    (c.operator.ensures ∙ ap (λ n. operator_at a.k (record { at = a.n; entries = n })) c.number_of.ensures)
