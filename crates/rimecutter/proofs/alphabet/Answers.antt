-- `rimecutter::alphabet` meets its contract: what is responded is settled.
-- Assumes nothing.
use Rattle.std.proofs.lemmas.Result.{err_from_is_err_and}
use Rattle.rimecutter.proofs.alphabet.Goals as goal

pub returns-in_err-response : goal.returns-in_err-response
returns-in_err-response c =
    let p = err_from_is_err_and c.from_residual.result c.from_residual.ensures.1 in
    rw (p.1, p.2) c.in_err-response.ensures.settled

pub returns : goal.returns
returns c = c.in_ok-response.ensures.settled
