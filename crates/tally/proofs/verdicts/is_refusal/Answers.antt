-- `tally::verdicts::is_refusal` meets its contract: its number first, then labels and rounds.
-- Assumes nothing.
use mathlib.Core.Path.{ap, ◌∙◌}
use mathlib.Core.Bool.{not}
use borrow.Author.Tests.{eq-eqb, ne_eqb}
use lib.Dec.{eqb}
use Rattle.tally.proofs.Givens.{refusal-unknown, refusal-by-figures, both-when, neither-when}
use Rattle.tally.proofs.verdicts.is_refusal.Goals as goal

pub returns-then-is_none : goal.returns-then-is_none
returns-then-is_none c = refusal-unknown c.args.verdict _ c.place_of.ensures (c.is_none.ensures ∙ ap not c.if-is_none.true)

pub returns-then-verdict-eq0 : goal.returns-then-verdict-eq0
returns-then-verdict-eq0 c =
    let v = c.args.verdict in
    both-when (eqb v.labels 0) (eqb v.rounds 0) (eq-eqb v.labels 0 c.if-verdict-eq0.true)
    (refusal-by-figures v _ c.place_of.ensures (c.is_none.ensures ∙ ap not c.if-is_none.false))

pub returns-else-verdict-eq0 : goal.returns-else-verdict-eq0
returns-else-verdict-eq0 c =
    let v = c.args.verdict in
    neither-when (eqb v.labels 0) (eqb v.rounds 0) (ne_eqb v.labels 0 c.if-verdict-eq0.false)
    (refusal-by-figures v _ c.place_of.ensures (c.is_none.ensures ∙ ap not c.if-is_none.false))
