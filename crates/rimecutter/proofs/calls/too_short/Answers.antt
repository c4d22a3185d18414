-- `rimecutter::calls::too_short` meets its contract: the work area is too short, or the answer area is asked.
-- Assumes nothing.
use borrow.Author.Tests.{lt-ltb, le-ltb}
use Rattle.rimecutter.proofs.calls.too_short.Goals as goal

pub returns-then-work-lt-WORK_WORDS : goal.returns-then-work-lt-WORK_WORDS
returns-then-work-lt-WORK_WORDS c = rw (lt-ltb _ _ c.if-work-lt-WORK_WORDS.true)

pub returns-else-work-lt-WORK_WORDS : goal.returns-else-work-lt-WORK_WORDS
returns-else-work-lt-WORK_WORDS c = rw (le-ltb _ _ c.if-work-lt-WORK_WORDS.false)
