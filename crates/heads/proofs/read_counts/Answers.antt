-- `heads::read_counts` meets its contract: the count of equations, and that of terms after it.
-- Assumes nothing.
use mathlib.Core.Path.{refl}
use Rattle.std.proofs.lemmas.Result.{err_from_is_err_and}
use Rattle.heads.proofs.HeadLines.{terms-bad, counts_end}
use Rattle.heads.proofs.read_counts.Goals as goal

pub returns-in_err-terms : goal.returns-in_err-terms
returns-in_err-terms c =
    let p = err_from_is_err_and c.from_residual-in_err-terms.result c.from_residual-in_err-terms.ensures.1 in
    rw (p.1, p.2) (terms-bad _ _ c.in_ok-equations.ensures refl c.in_err-terms.ensures refl)

pub returns : goal.returns
returns c = counts_end _ _ c.in_ok-equations.ensures refl c.in_ok-terms.ensures refl
