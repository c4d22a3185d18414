-- `heads::read_head` meets its contract: the count of names, the names, and the other counts after them.
-- Assumes nothing.
use mathlib.Core.Path.{refl}
use native.Mathlib.Omega.{arith}
use Rattle.std.proofs.lemmas.Result.{err_from_is_err_and}
use Rattle.sections.proofs.Given.{given-roomy}
use Rattle.heads.proofs.HeadLines.{head-bad, head-names-bad}
use Rattle.heads.proofs.HeadLines.{head-counts-bad, head-counts-within, head-end}
use Rattle.heads.proofs.read_head.Goals as goal

pub returns-in_err-given : goal.returns-in_err-given
returns-in_err-given c =
    let p = err_from_is_err_and c.from_residual.result c.from_residual.ensures.1 in
    rw (p.1, p.2) (given-roomy c.if-table-lt-TABLE_WORDS.false (head-bad _ c.in_err-given.ensures refl))

pub returns-in_err-next : goal.returns-in_err-next
returns-in_err-next c =
    let p = err_from_is_err_and c.from_residual-in_err-next.result c.from_residual-in_err-next.ensures.1 in
    rw (p.1, p.2) (given-roomy c.if-table-lt-TABLE_WORDS.false (head-names-bad _ c.in_ok-given.ensures refl c.in_err-next.ensures refl))

pub returns-in_err-counts : goal.returns-in_err-counts
returns-in_err-counts c =
    let p = err_from_is_err_and c.from_residual-in_err-counts.result c.from_residual-in_err-counts.ensures.1 in
    rw (p.1, p.2)
    (given-roomy c.if-table-lt-TABLE_WORDS.false (head-counts-bad _ c.in_ok-given.ensures refl c.in_ok-next.ensures refl c.in_err-counts.ensures refl))

pub overflow_add-result : goal.overflow_add-result
overflow_add-result c =
    omega (arith, head-counts-within c.args.table.now c.in_ok-given.ensures refl c.in_ok-next.ensures refl c.in_ok-counts.ensures refl)

pub returns : goal.returns
returns c =
    given-roomy c.if-table-lt-TABLE_WORDS.false
    (head-end _ c.in_ok-given.ensures refl c.in_ok-next.ensures refl c.in_ok-counts.ensures refl)
