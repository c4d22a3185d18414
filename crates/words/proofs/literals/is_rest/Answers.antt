-- `words::literals::is_rest` meets its contract: the word is passed, and LF follows it.
-- Assumes nothing.
use mathlib.Core.Path.{ap, ◌∙◌}
use Rattle.words.proofs.Steps.{steps-to, steps-stuck}
use Rattle.words.proofs.Looked.{ends_there, rest-literal}
use Rattle.words.proofs.literals.is_rest.Goals as goal

pub returns-in_default : goal.returns-in_default
returns-in_default c =
    let a = c.args in
    ap ends_there (steps-stuck c.read_literal.ensures c.in_default.is).says ∙ rest-literal a.due.now a.rest.now

pub returns : goal.returns
returns c =
    let a = c.args in
    c.sign_at.ensures
    ∙ ap ends_there (steps-to c.read_literal.ensures c.in-Ok.is).says
    ∙ rest-literal a.due.now a.rest.now
