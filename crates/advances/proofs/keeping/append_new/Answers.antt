-- `advances::keeping::append_new` meets its contract. Assumes nothing.
use native.Mathlib.Omega.{arith}
use Rattle.areas.specs.Rows.{held}
use Rattle.areas.proofs.Held.{held-long, length-held}
use Rattle.sets.proofs.Steps.{handed_on}
use Rattle.advances.proofs.Appending.{logged-fits, appended-all, appended-large}
use Rattle.advances.proofs.keeping.append_new.Goals as goal

pub returns-in_err-count : goal.returns-in_err-count
returns-in_err-count c =
    let a = c.args in
    rw (handed_on c.from_residual.result c.from_residual.ensures.0)
    (appended-large (held a.known.now) (held a.made.now) a.end (held a.log.now) (held-long _ _ c.log_new.auto.log) c.in_err-count.ensures)

pub overflow_add-result : goal.overflow_add-result
overflow_add-result c =
    let a = c.args in
    let fits = logged-fits (held a.known.now) (held a.made.now) a.end (held a.log.now) c.in_ok-count.ensures in
    let g = c.well_formed.1.1.0.0 in
    let low = c.if-labels_in-end.false in
    let all = c.labels_in.ensures in
    omega (arith, length-held a.log.now)

pub returns : goal.returns
returns c =
    let a = c.args in
    appended-all (held a.known.now) (held a.made.now) a.end (held a.log.now) (held-long _ _ c.log_new.auto.log) c.in_ok-count.ensures
