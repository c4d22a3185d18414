-- `termlines::take_term` meets its contract: the line by what its reader came to.
-- Assumes nothing.
use Rattle.termlines.proofs.TermLines.{line-stuck, line-faulty, line-fine}
use Rattle.termlines.proofs.take_term.Goals as goal

pub returns-in-Err : goal.returns-in-Err
returns-in-Err c = line-stuck _ _ _ _ _ _ _ c.requires c.in-Err.stuck c.in-Err.ensures c.flaw_after-flaw.ensures

pub returns-in-Some : goal.returns-in-Some
returns-in-Some c = line-faulty _ _ _ _ _ _ _ c.requires c.in-Ok.ensures c.in-Some.is c.flaw_in-flaw.ensures

pub returns : goal.returns
returns c = line-fine _ _ _ _ _ _ _ c.requires c.in-Ok.ensures c.in_default.is c.pack.ensures
