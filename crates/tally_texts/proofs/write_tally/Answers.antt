-- `tally_texts::write_tally` meets its contract: every text fits the scratch area, and one that fits the lent area is copied there.
-- Assumes nothing.
use Rattle.tally_texts.proofs.Lengths.{length-tally}
use Rattle.tally_texts.proofs.write_tally.Goals as goal

pub write_lines-size-requires : goal.write_lines-size-requires
write_lines-size-requires c = length-tally c.args.tally
