use mathlib.Core.Path.{refl, ap, ◌∙◌}
use Prim.Native.Nat.{ℕ, ◌<◌}
use native.Mathlib.Omega.{arith}
use lib.ListN.{length}
use Rattle.areas.specs.Rows.{held}
use Rattle.areas.proofs.Held.{length-held}
use Rattle.sets.proofs.Steps.{grown-as}
use Rattle.merging.specs.Joining.{cut_to}
use Rattle.logs.specs.Logs.{less_of}
use Rattle.logs.proofs.LogSteps.{logging-start, logging-known, logging-step, logging-full, logging-end}
use Rattle.logs.proofs.log_new.Goals as goal

pub loop-i-init : goal.loop-i-init
loop-i-init c =
    let a = c.args in (
      logging-start (held a.known.now) (held a.made.now) a.at c.space-most.result (held a.log.now)
          (omega (arith, c.space-most.ensures)),
      refl,
    )

pub shape_of-log-then-most-len : goal.shape_of-log-then-most-len
shape_of-log-then-most-len c = c.loop-i.invariant.1

pub returns-then-most-len : goal.returns-then-most-len
returns-then-most-len c =
    let a = c.args in
    grown-as (λ s. ap (λ (n : ℕ). cut_to n (less_of (held a.known.now) (held a.made.now))) c.space-most.ensures)
    (logging-full _ _ _ _ _ c.loop-i.invariant.0 (omega (arith, c.loop-i-test.true, c.labels_in-end.ensures))
    c.read_label-label.ensures c.is_known.ensures c.if-not-is_known.true-raw c.if-most-len.true)

pub overflow_add-at : goal.overflow_add-at
overflow_add-at c =
    omega (
      arith,
      c.loop-i.invariant.0.count,
      c.if-most-len.false,
      c.well_formed.1.1.0,
      length-held c.args.log.now,
    )

pub overflow_add-len : goal.overflow_add-len
overflow_add-len c =
    omega (
      arith,
      c.loop-i.invariant.0.count,
      c.if-most-len.false,
      c.well_formed.1.1.0,
      length-held c.args.log.now,
    )

pub loop-i-preserved : goal.loop-i-preserved
loop-i-preserved c =
    let more : c.loop-i.i < length (held c.args.made.now)
    = omega (arith, c.loop-i-test.true, c.labels_in-end.ensures) in
    elim c.if-not-is_known.branch [
      | goal.then-not-is_known+else-most-len w ↦ rw (w.log-is, w.len-is) (
        rw w.write_label.ensures
            (logging-step _ _ _ _ _ c.loop-i.invariant.0 more c.read_label-label.ensures c.is_known.ensures w.if-not-is_known.true-raw w.if-most-len.false),
        w.write_label.auto.words ∙ c.loop-i.invariant.1,
      )
      | goal.else-not-is_known w ↦ rw (w.log-is, w.len-is) (
        logging-known _ _ _ _ _ c.loop-i.invariant.0 more c.read_label-label.ensures c.is_known.ensures w.if-not-is_known.false-raw,
        c.loop-i.invariant.1,
      )
    ]

pub shape_of-log : goal.shape_of-log
shape_of-log c = c.loop-i.invariant.1

pub returns : goal.returns
returns c =
    let a = c.args in
    grown-as (λ s. ap (λ (n : ℕ). cut_to n (less_of (held a.known.now) (held a.made.now))) c.space-most.ensures)
    (logging-end _ _ _ _ _ c.loop-i.invariant.0 (omega (arith, c.loop-i-test.false, c.labels_in-end.ensures)))
