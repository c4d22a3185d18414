use mathlib.Core.Path.{refl}
use Rattle.std.proofs.lemmas.Result.{err_from_is_err_and}
use Rattle.termlines.proofs.StoredTerms.{terms-start, terms-halt, terms-step, terms-end}
use Rattle.termlines.proofs.take_terms.Goals as goal

pub loop-n-init : goal.loop-n-init
loop-n-init c = terms-start _ _ _ _ _ _

pub returns-in_err-term : goal.returns-in_err-term
returns-in_err-term c =
    let pre = c.requires in
    let p = err_from_is_err_and c.from_residual.result c.from_residual.ensures.1 in
    let step = rw c.names_of.ensures at c.in_err-term.ensures in
    rw (p.1, p.2) (terms-halt c.loop-n.invariant pre.1 pre.3 c.loop-n-test.true step refl)

pub loop-n-preserved : goal.loop-n-preserved
loop-n-preserved c =
    let pre = c.requires in
    let step = rw c.names_of.ensures at c.in_ok-term.ensures in
    terms-step c.loop-n.invariant pre.1 pre.3 c.loop-n-test.true step refl

pub returns : goal.returns
returns c =
    let pre = c.requires in
    terms-end c.loop-n.invariant pre.1 pre.3 c.loop-n-test.false
