-- `alphabet::main` meets its contract: 303,104 bytes hold every text, so the length of one is always answered.
-- Assumes nothing.
use Rattle.grammar.proofs.Areas.{fits-is_some}
use Rattle.rimecutter.proofs.Texts.{text-fits}
use Rattle.alphabet.proofs.main.Goals as goal

pub unwrap-length-requires : goal.unwrap-length-requires
unwrap-length-requires c = fits-is_some (text-fits _) c.alphabet_text.ensures
