use mathlib.Core.Path.{◌≡◌, sym, ◌∙◌}
use Prim.Native.Nat.{◌<◌}
use native.Mathlib.Nat.{add-zero}
use native.Mathlib.Omega.{arith}
use borrow.Author.Tests.{not-true, not-false}
use lib.ListN.{length, get_or}
use Rattle.areas.specs.Rows.{held}
use Rattle.areas.proofs.Held.{length-held}
use Rattle.labels.specs.Packing.{code}
use Rattle.labels.proofs.Codes.{code_of}
use Rattle.parts.specs.Parts.{set_at}
use Rattle.parts.proofs.LaidSets.{length-set_at, get_d-set_at}
use Rattle.sets.proofs.Presence.{climbing-none, climbing-start, climbing-on, climbing-stops, climbing-end}
use Rattle.sets.proofs.ascending.ascends.Goals as goal
use Rattle.sets.proofs.ascending.ascends.Goals.{After-reach-count, After-read_label-next, In-loop-i}

-- how many labels the set has
counted : (c : After-reach-count) → let a = c.args in
    c.reach-count.result ≡ length (set_at a.at a.len (held a.words.now))
counted c = let a = c.args in c.reach-count.ensures ∙ sym (length-set_at a.at a.len (held a.words.now))

-- the label that is read next: it is one of the set
inner : (c : In-loop-i) → let a = c.args in
    c.loop-i.i < length (set_at a.at a.len (held a.words.now))
inner c = let a = c.args in
    omega (arith, c.reach-count.ensures, length-set_at a.at a.len (held a.words.now), c.loop-i-test.true)

read : (c : After-read_label-next) → let a = c.args in
    code c.read_label-next.result ≡ get_or (set_at a.at a.len (held a.words.now)) c.loop-i.i 0
read c =
    let a = c.args in
    code_of c.read_label-next.ensures
    ∙ sym (get_d-set_at a.at a.len (held a.words.now) c.loop-i.i
    (omega (arith, c.loop-i-test.true, c.reach-count.ensures)))

pub returns-then-count-eq0 : goal.returns-then-count-eq0
returns-then-count-eq0 c =
    let a = c.args in
    climbing-none (set_at a.at a.len (held a.words.now)) (sym (counted (goal.at.returns-then-count-eq0 c).After-reach-count) ∙ c.if-count-eq0.true)

pub loop-i-init : goal.loop-i-init
loop-i-init c =
    let a = c.args in
    let there : 0 < length (set_at a.at a.len (held a.words.now)) = omega (arith, counted (goal.at.loop-i-init c).After-reach-count, c.if-count-eq0.false) in
    climbing-start (set_at a.at a.len (held a.words.now)) (code c.read_label-last.result) there
    (code_of c.read_label-last.ensures
    ∙ sym (rw (get_d-set_at a.at a.len (held a.words.now) 0 (omega (arith, length-set_at a.at a.len (held a.words.now))), add-zero)))

pub overflow_add-at : goal.overflow_add-at
overflow_add-at c = omega (arith, length-held c.args.words.now)

pub returns-then-not-below : goal.returns-then-not-below
returns-then-not-below c =
    climbing-stops c.loop-i.invariant (code c.read_label-next.result) (inner (goal.at.returns-then-not-below c).In-loop-i)
    (read (goal.at.returns-then-not-below c).After-read_label-next)
    (sym (not-true _ c.if-not-below.true-raw) ∙ c.below.ensures)

pub loop-i-preserved : goal.loop-i-preserved
loop-i-preserved c =
    climbing-on c.loop-i.invariant (code c.read_label-next.result) (inner (goal.at.loop-i-preserved c).In-loop-i)
    (read (goal.at.loop-i-preserved c).After-read_label-next)
    (sym (not-false _ c.if-not-below.false-raw) ∙ c.below.ensures)

pub returns : goal.returns
returns c =
    climbing-end c.loop-i.invariant (omega (arith, counted (goal.at.returns c).After-reach-count, c.loop-i-test.false))
