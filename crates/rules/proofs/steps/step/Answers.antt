-- `rules::steps::step` meets its contract: the tests are whether the rule applies, and whether the label is followed by itself. Where
-- no rule stands, what is read is one that takes nothing.
-- Assumes nothing.
use Rattle.std.specs.Prelude.{Some, None}
use mathlib.Core.Path.{◌≡◌, sym, ap, ap₂, ◌∙◌}
use mathlib.Core.Bool.{Bool, true, false}
use mathlib.Core.List.{List}
use Prim.Native.Nat.{ℕ, ◌+◌, ◌-◌, ◌%◌, ◌^◌, ◌≤◌}
use lib.ListN.{length, get_or-eq_default}
use Rattle.labels.specs.Packing.{code, packed}
use Rattle.labels.proofs.Codes.{code_of}
use Rattle.areas.specs.Rows.{held}
use Rattle.parts.specs.Parts.{words_of}
use Rattle.sets.specs.Inserting.{present}
use Rattle.rules.specs.declared.State.{State}
use Rattle.rules.specs.Rules.{exchange_at, applies, replaced_by, pick_step}
use Rattle.rules.proofs.steps.step.Goals as goal
use Rattle.rules.proofs.steps.step.Goals.{After-applies, After-contains}

-- past the last rule
fits : (c : After-applies) → let a = c.args in
    c.applies.result ≡ applies (exchange_at (held a.rules.now) a.i) (code a.state.rest)
fits c =
    let a = c.args in
    c.applies.ensures ∙ ap (λ x. applies (record { left = x; right = 0 }) (code a.state.rest)) (code_of c.read_label-left.ensures)

-- the label that is made, and whether it is followed by itself
made : (c : After-contains) → let a = c.args in
    c.joined-sum.result ≡ packed (replaced_by (exchange_at (held a.rules.now) a.i) (code a.state.sum))
made c =
    let w = code c.args.state.sum in
    let left = code_of c.difference.ensures ∙ ap (λ x. w - x) (code_of c.read_label-left.ensures) in
    c.joined-sum.ensures ∙ ap₂ (λ x y. packed ((x + y) % 2 ^ 124)) left (code_of c.read_label.ensures)

known : (c : After-contains) → let a = c.args in
    c.contains.result
    ≡ present (words_of a.before a.operand (held a.words.now)) (replaced_by (exchange_at (held a.rules.now) a.i) (code a.state.sum))
known c =
    let a = c.args in
    c.contains.ensures ∙ ap (present (words_of a.before a.operand (held a.words.now))) (code_of (made c))

-- where it leads, by the two tests
not-applied : {t : Bool} (k : Bool) (s : State) → false ≡ t → None ≡ pick_step t k s
not-applied k s e = rw (← e)

by_itself : {t k : Bool} (s : State) → true ≡ t → true ≡ k → None ≡ pick_step t k s
by_itself s e f = rw (← e, ← f)

leads-on : {t k : Bool} (s : State) → true ≡ t → false ≡ k → Some s ≡ pick_step t k s
leads-on s e f = rw (← e, ← f)

pub returns-then-contains : goal.returns-then-contains
returns-then-contains c =
    by_itself _ (sym c.if-applies.true ∙ fits (goal.at.returns-then-contains c).After-applies)
    (sym c.if-contains.true ∙ known (goal.at.returns-then-contains c).After-contains)

pub returns-else-contains : goal.returns-else-contains
returns-else-contains c =
    let w = code c.args.state.rest in
    let rest = c.difference-rest.ensures ∙ ap (λ x. packed (w - x)) (code_of c.read_label-left.ensures) in
    ap₂ (λ x y. Some (record { rest = x; sum = y })) rest (made (goal.at.returns-else-contains c).After-contains)
    ∙ leads-on _ (sym c.if-applies.true ∙ fits (goal.at.returns-else-contains c).After-applies)
    (sym c.if-contains.false ∙ known (goal.at.returns-else-contains c).After-contains)

pub returns-else-applies : goal.returns-else-applies
returns-else-applies c = not-applied _ _ (sym c.if-applies.false ∙ fits (goal.at.returns-else-applies c).After-applies)
