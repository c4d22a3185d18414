-- `sums::seen::is_kept` meets its contract. Assumes nothing.
use Rattle.std.proofs.Common.{◌≡◌, eqb, sym, ap, ◌∙◌}
use Rattle.labels.specs.Packing.{code}
use Rattle.labels.proofs.Codes.{code_of}
use Rattle.sums.proofs.seen.is_kept.Goals as goal
use Rattle.sums.proofs.seen.is_kept.Goals.{After-same}

-- the test for the empty label
empty : (c : After-same) → eqb (code c.args.label) 0 ≡ c.same.result
empty c =
    let w = code c.args.label in
    sym (c.same.ensures ∙ ap (eqb w) (code_of c.tau.ensures))

pub returns-then-same : goal.returns-then-same
returns-then-same c = rw (empty (goal.at.returns-then-same c).After-same, c.if-same.true)

pub returns : goal.returns
returns c = rw (empty (goal.at.returns c).After-same, c.if-same.false) c.label_is.ensures
