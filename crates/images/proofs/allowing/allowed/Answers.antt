-- `images::allowing::allowed` meets its contract: tau passes, any other label if it is found; the part that is searched is the whole
-- list. Assumes nothing.
use mathlib.Core.Path.{sym, ap, ◌∙◌}
use mathlib.Core.Bool.{Bool, ◌||◌}
use mathlib.Core.List.{List}
use Prim.Native.Nat.{ℕ, ◌≤◌}
use native.Mathlib.Omega.{arith}
use lib.Dec.{eqb}
use lib.ListN.{length, take}
use lib.Seq.{take_all}
use Rattle.labels.specs.Packing.{code}
use Rattle.labels.proofs.Codes.{code_of}
use Rattle.areas.specs.Rows.{held}
use Rattle.sets.specs.Inserting.{present}
use Rattle.images.proofs.allowing.allowed.Goals as goal

pub returns-then-same : goal.returns-then-same
returns-then-same c =
    let a = c.args in
    ap (λ (t : Bool). t || present (held a.list.now) (code a.label))
    (sym c.if-same.true ∙ c.same.ensures ∙ ap (eqb (code a.label)) (code_of c.tau.ensures))

pub returns : goal.returns
returns c =
    let a = c.args in
    let end = c.labels_in-end.result in
    let list = held a.list.now in
    let most : length list ≤ end = omega (arith, c.labels_in-end.ensures) in
    let searched = ap (take end) (take_all end list most) ∙ take_all end list most in
    let other = sym c.if-same.false ∙ c.same.ensures ∙ ap (eqb (code a.label)) (code_of c.tau.ensures) in
    c.contains.ensures
    ∙ ap (λ (l : List ℕ). present l (code a.label)) searched
    ∙ ap (λ (t : Bool). t || present list (code a.label)) other
