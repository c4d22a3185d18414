-- `feet::read_foot` meets its contract: the bodies, and the root after them.
-- Assumes nothing.
use mathlib.Core.Path.{refl}
use Rattle.std.proofs.lemmas.Result.{err_from_is_err_and}
use Rattle.feet.proofs.FootLines.{foot-bodies-bad, foot-root-bad, foot-end}
use Rattle.feet.proofs.read_foot.Goals as goal

pub returns-in_err-at : goal.returns-in_err-at
returns-in_err-at c =
    let p = err_from_is_err_and c.from_residual.result c.from_residual.ensures.1 in
    rw (p.1, p.2) (foot-bodies-bad c.in_err-at.ensures refl)

pub returns-in_err-root : goal.returns-in_err-root
returns-in_err-root c =
    let p = err_from_is_err_and c.from_residual-in_err-root.result c.from_residual-in_err-root.ensures.1 in
    rw (p.1, p.2) (foot-root-bad c.in_ok-at.ensures refl c.in_err-root.ensures refl)

pub returns : goal.returns
returns c = foot-end c.in_ok-at.ensures refl c.in_ok-root.ensures refl
