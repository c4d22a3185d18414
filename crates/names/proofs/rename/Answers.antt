-- `names::rename` meets its contract. Assumes nothing.
use mathlib.Core.Path.{◌∙◌}
use Rattle.names.proofs.Lists.{renamed-lower, renamed-words}
use Rattle.names.proofs.rename.Goals as goal

pub returns-then-a-eq0 : goal.returns-then-a-eq0
returns-then-a-eq0 c = c.rename_word-lower.ensures ∙ renamed-lower _ _ c.if-a-eq0.true

pub returns : goal.returns
returns c = renamed-words _ _ c.rename_word-lower.ensures c.rename_word.ensures c.joined.ensures
