-- `rules::steps::applies` meets its contract: a rule takes something where its left side is not tau, and two words
-- hold a label. Assumes nothing.
use mathlib.Core.Path.{◌≡◌, sym, ap, ◌∙◌}
use mathlib.Core.Bool.{Bool, true, false, not, ◌&&◌}
use Prim.Native.Nat.{◌^◌, ◌<◌}
use native.Mathlib.Omega.{arith}
use borrow.Author.Tests.{lt-ltb}
use lib.Dec.{eqb, ltb}
use Rattle.labels.specs.declared.Label.{Label}
use Rattle.labels.specs.Packing.{code}
use Rattle.labels.proofs.Codes.{code_of}
use Rattle.rules.proofs.steps.applies.Goals as goal
use Rattle.rules.proofs.steps.applies.Goals.{After-same}

-- whether the rule takes nothing
none : (c : After-same) → c.same.result ≡ eqb (code c.args.left) 0
none c = c.same.ensures ∙ ap (eqb (code c.args.left)) (code_of c.tau.ensures)

takes-nothing : {t : Bool} (fits : Bool) → true ≡ t → false ≡ not t && fits
takes-nothing fits e = rw (← e)

takes-some : {t : Bool} (left : Label) (fits : Bool) → left.upper < 2 ^ 64 → false ≡ t → fits ≡ not t && (ltb (code left) (2 ^ 124) && fits)
unfolding code
takes-some left fits h e = rw (← e, lt-ltb (code left) (2 ^ 124) (omega arith))

pub returns-then-same : goal.returns-then-same
returns-then-same c = takes-nothing _ (sym c.if-same.true ∙ none (goal.at.returns-then-same c).After-same)

pub returns-else-same : goal.returns-else-same
returns-else-same c =
    let left = c.args.left in
    c.inside.ensures ∙ takes-some left _ (omega arith) (sym c.if-same.false ∙ none (goal.at.returns-else-same c).After-same)
