-- `tally_files::main` meets its contract: its area holds the text of every tally.
-- Assumes nothing.
use Rattle.tally_texts.proofs.Lengths.{length-tally, fits-is_some}
use Rattle.tally_files.proofs.main.Goals as goal

pub unwrap-length-requires : goal.unwrap-length-requires
unwrap-length-requires c = fits-is_some (length-tally _) c.write_tally.ensures
