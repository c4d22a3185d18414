-- `rimecutter::alphabet_text` meets its contract: a text that is too long is refused, and every other is written in one of two ways.
-- Assumes nothing.
use Rattle.rimecutter.proofs.Texts.{long-printed}
use Rattle.rimecutter.proofs.alphabet_text.Goals as goal

pub returns-then-description-gt-TEXT_BYTES : goal.returns-then-description-gt-TEXT_BYTES
returns-then-description-gt-TEXT_BYTES c = long-printed _ c.if-description-gt-TEXT_BYTES.true c.write_refusal.ensures
