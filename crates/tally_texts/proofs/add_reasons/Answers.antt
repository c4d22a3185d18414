-- Assumes nothing.
use mathlib.Core.Path.{◌≡◌}
use mathlib.Core.Logic.{inl, inr}
use Rattle.grammar.specs.Marks.{decimal}
use Rattle.grammar.specs.Printed.{line}
use Rattle.grammar.proofs.Underway.{underway-step, underway-end, next-room}
use Rattle.tally.specs.Figures.{refusal_numbers}
use Rattle.tally_texts.specs.Texts.{reason_key, reason_lines}
use Rattle.tally_texts.proofs.Behind.{behind-start}
use Rattle.tally_texts.proofs.Reasons.{next-reason, no-numbers, no-figures}
use Rattle.tally_texts.proofs.add_reasons.Goals as goal

pub loop-number-init : goal.loop-number-init
loop-number-init c =
    let a = c.args in
    let numbers : c.into_iter-number-iterator.result.a.rest.now ≡ refusal_numbers = cc in
    let figures : c.into_iter-number-iterator.result.b.rest.now ≡ a.refusals = cc in
    rw (numbers, figures) (behind-start (reason_lines refusal_numbers a.refusals) a.text.now a.at c.requires)

pub write_reason-end-requires : goal.write_reason-end-requires
write_reason-end-requires c =
    let l = c.loop-number in
    let next = next-reason c.in-Some.ensures.steps.0 c.in-Some.ensures.steps.1 in
    next-room (line (reason_key c.in-Some.number.now) (decimal c.in-Some.figure.now))
    (reason_lines c.next.new.self.a.rest.now c.next.new.self.b.rest.now) (rw next at l.invariant)

pub loop-number-preserved : goal.loop-number-preserved
loop-number-preserved c =
    let next = next-reason c.in-Some.ensures.steps.0 c.in-Some.ensures.steps.1 in
    underway-step (rw next at c.loop-number.invariant) c.write_reason-end.ensures

pub returns : goal.returns
returns c =
    let l = c.loop-number in
    elim c.in-None.ensures.steps [
      | inl h ↦ underway-end (rw (no-numbers l.number-iterator.a.rest.now l.number-iterator.b.rest.now h.1.0) at l.invariant)
      | inr h ↦ underway-end (rw (no-figures l.number-iterator.a.rest.now l.number-iterator.b.rest.now h.1.0) at l.invariant)
    ]
