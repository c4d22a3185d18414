-- `words::names::goes_on` meets its contract: the second test is asked only where the first fails.
-- Assumes nothing.
use mathlib.Core.Path.{sym, ◌∙◌}
use Rattle.grammar.specs.Text.{is_lower, is_digit}
use Rattle.words.proofs.names.goes_on.Goals as goal

pub returns-then-is_ascii_lowercase : goal.returns-then-is_ascii_lowercase
unfolding is_lower is_digit
returns-then-is_ascii_lowercase c =
    let low = c.if-is_ascii_lowercase.true in
    rw (sym c.is_ascii_lowercase.ensures.value ∙ low) low

pub returns-else-is_ascii_lowercase : goal.returns-else-is_ascii_lowercase
unfolding is_lower is_digit
returns-else-is_ascii_lowercase c =
    rw (sym c.is_ascii_lowercase.ensures.value ∙ c.if-is_ascii_lowercase.false) c.is_ascii_digit.ensures.value
