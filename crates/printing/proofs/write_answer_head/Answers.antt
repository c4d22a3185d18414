-- `printing::write_answer_head` meets its contract: what is said and two lines.
-- Assumes nothing.
use Rattle.printing.specs.Steps.{answer_head}
use Rattle.printing.proofs.write_answer_head.Goals as goal

pub write_head-requires : goal.write_head-requires
unfolding answer_head
write_head-requires c = c.requires

pub returns : goal.returns
unfolding answer_head
returns c = c.write_head.ensures
