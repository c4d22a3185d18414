-- `tally_trials::write_addition` meets its contract: behind the longest line there is room for every tally's text.
-- Assumes nothing.
use native.Mathlib.Omega.{arith}
use Rattle.tally_texts.proofs.Lengths.{length-tally, fits-is_some}
use Rattle.tally_trials.proofs.write_addition.Goals as goal

pub unwrap-length-requires : goal.unwrap-length-requires
unwrap-length-requires g c = fits-is_some (omega (arith, length-tally c.args.addition.tally, c.write_said-at.ensures)) c.write_tally.ensures
