use mathlib.Core.Path.{◌≡◌, sym, ap, ◌∙◌}
use Prim.Native.Nat.{◌*◌}
use native.Mathlib.Omega.{arith}
use lib.Dec.{eqb}
use Rattle.labels.specs.Packing.{code}
use Rattle.labels.proofs.Codes.{code_of}
use Rattle.areas.specs.Rows.{held}
use Rattle.memory.specs.Memory.{ways}
use Rattle.memory.proofs.Holding.{none-known, by-slot, holds-here, holds_later, holds-nowhere}
use Rattle.memory.proofs.Recalling.{nothing_known}
use Rattle.memory.proofs.known.Goals as goal
use Rattle.memory.proofs.known.Goals.{After-same}

pub returns-then-labels_in-eq0 : goal.returns-then-labels_in-eq0
returns-then-labels_in-eq0 c =
    let a = c.args in
    nothing_known (held a.memory.now) (held a.rules.now) a.before (code a.state.rest) (code a.state.sum)
    (omega (arith, c.labels_in.ensures, c.if-labels_in-eq0.true))

empty : (c : After-same) → c.same.result ≡ eqb (code c.args.state.sum) 0
empty c = c.same.ensures ∙ ap (eqb (code c.args.state.sum)) (code_of c.tau.ensures)

pub returns-then-same : goal.returns-then-same
returns-then-same c =
    let a = c.args in
    none-known (held a.memory.now) (held a.rules.now) a.before (code a.state.rest) (code a.state.sum)
    (sym c.if-same.true ∙ empty (goal.at.returns-then-same c).After-same)

pub overflow_mul-first : goal.overflow_mul-first
overflow_mul-first c = omega (arith, c.slot-first.ensures.1)

pub loop-way-init : goal.loop-way-init
loop-way-init c =
    let a = c.args in
    by-slot (held a.memory.now) (held a.rules.now) c.slot-first.result a.before (code a.state.rest) (code a.state.sum)
    (sym c.if-same.false ∙ empty (goal.at.loop-way-init c).After-same) c.slot-first.ensures.0

pub overflow_add-first : goal.overflow_add-first
overflow_add-first c = omega (arith, c.slot-first.ensures.1)

pub holds_at-requires : goal.holds_at-requires
holds_at-requires c = omega (arith, c.slot-first.ensures.1)

pub returns-then-holds_at : goal.returns-then-holds_at
returns-then-holds_at c =
    let a = c.args in
    holds-here (held a.memory.now) (held a.rules.now) (ways * c.slot-first.result) a.before (code a.state.rest)
    (code a.state.sum) c.loop-way.way c.loop-way-test.true (sym c.if-holds_at.true ∙ c.holds_at.ensures)
    ∙ sym c.loop-way.invariant

pub loop-way-preserved : goal.loop-way-preserved
loop-way-preserved c =
    let a = c.args in
    c.loop-way.invariant
    ∙ holds_later (held a.memory.now) (held a.rules.now) (ways * c.slot-first.result) a.before (code a.state.rest)
    (code a.state.sum) c.loop-way.way c.loop-way-test.true (sym c.if-holds_at.false ∙ c.holds_at.ensures)

pub returns : goal.returns
returns c =
    let a = c.args in
    holds-nowhere (held a.memory.now) (held a.rules.now) (ways * c.slot-first.result) a.before (code a.state.rest)
    (code a.state.sum) c.loop-way.way c.loop-way-test.false ∙ sym c.loop-way.invariant
