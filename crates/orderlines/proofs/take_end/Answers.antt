-- `orderlines::take_end` meets its contract: the words that are lent are 0 after a bad line.
-- Assumes nothing.
use mathlib.Core.Path.{sym, ◌∙◌}
use Rattle.orderlines.proofs.OrderEnds.{end_kept, end-cleared}
use Rattle.orderlines.proofs.take_end.Goals as goal

pub returns-then-is_err : goal.returns-then-is_err
returns-then-is_err c = end-cleared c.only_line-last.ensures c.requires c.listed-1.given c.clear.ensures (sym c.is_err.ensures.value ∙ c.if-is_err.true)

pub returns-else-is_err : goal.returns-else-is_err
returns-else-is_err c = end_kept c.only_line-last.ensures (sym c.is_err.ensures.value ∙ c.if-is_err.false)
