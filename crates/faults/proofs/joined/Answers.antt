-- `faults::joined` meets its contract: where both tests hold they have no fault to join.
-- Assumes nothing.
use mathlib.Core.Path.{◌≡◌, sym, ap₂, ◌∙◌}
use Rattle.meaning.specs.Answers.{amount}
use Rattle.grammar.specs.Faults.{fault, worse, unless}
use Rattle.faults.proofs.Ranks.{worse-fine, first-fails, second-fails}
use Rattle.faults.proofs.joined.Goals as goal
use Rattle.faults.proofs.joined.Goals.{Joined-else-ordered}

pub returns-then-within : goal.returns-then-within
returns-then-within c =
    let h = c.worse_of-entries.ensures in
    rw (c.if-ordered.true, c.if-within.true) (h ∙ sym (worse-fine _))

-- one of the tests failed
amounts : (c : Joined-else-ordered)
    → let a = c.args in
    fault amount a.from ≡ worse (unless a.ordered amount a.from) (unless a.within amount a.from)
amounts c =
    let a = c.args in
    elim c.else-ordered.branch [
      | goal.else-ordered-via-then-ordered+else-within w ↦ rw w.if-within.false (second-fails a.ordered a.from)
      | goal.else-ordered-via-else-ordered w ↦ rw w.if-ordered.false (first-fails a.within a.from)
    ]

pub returns : goal.returns
returns c = c.worse_of.ensures ∙ ap₂ worse c.worse_of-entries.ensures (amounts c.before)
