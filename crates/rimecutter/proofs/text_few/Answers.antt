-- `rimecutter::text_few` meets its contract: what is told in small areas, written, or else the text from those that are enough.
-- Assumes nothing.
use mathlib.Core.Path.{sym, ◌∙◌}
use Rattle.rimecutter.proofs.Arms.{told}
use Rattle.rimecutter.proofs.Texts.{told-printed}
use Rattle.rimecutter.proofs.text_few.Goals as goal

pub returns : goal.returns
returns c =
    let tried = c.respond_few-response in
    told-printed _ _ _ tried.result (tried.ensures.told (told _ (sym c.is_large.ensures ∙ c.if-is_large.false))) c.write_response.ensures
