-- `keyed::numbers::take_number` meets its contract: the line, its number, and the test.
-- Assumes nothing.
use mathlib.Core.Path.{ap}
use Rattle.grammar.specs.Reading.{after_line}
use Rattle.faults.specs.CodedFaults.{fault_of}
use Rattle.keyed.proofs.Walks.{line-bad, number_to-bad}
use Rattle.keyed.proofs.NumberLines.{number-stuck, number-low, number-high, number-between}
use Rattle.keyed.proofs.numbers.take_number.Goals as goal

pub returns-in-Err : goal.returns-in-Err
returns-in-Err c =
    let a = c.args in
    number_to-bad
    (line-bad a.line a.text.now c.flaw_after-flaw.ensures
    (number-stuck a.key.now a.low a.below (fault_of a.fault) a.text.now c.in-Err.ensures.stands))

pub returns-then-number-low : goal.returns-then-number-low
returns-then-number-low c =
    let a = c.args in
    let s = c.in-Ok.ensures.stands in
    let n = c.in-Ok.number.value in
    number_to-bad
    (line-bad a.line a.text.now c.flaw_after-flaw-then-number-low.ensures
    (elim c.then-number-low.branch [
      | goal.then-number-low-via-then-number-low w ↦ number-low a.key.now a.low a.below (fault_of a.fault) _ s.says w.if-number-low.true
      | goal.then-number-low-via-else-number-low+then-below-number w ↦
          number-high a.key.now a.low a.below (fault_of a.fault) _ s.says w.if-number-low.false w.if-below-number.true
    ]))

pub returns : goal.returns
returns c =
    let a = c.args in
    let s = c.in-Ok.ensures.stands in
    record {
      walks =
          record {
            says =
                ap (after_line a.line a.text.now)
                (number-between a.key.now a.low a.below (fault_of a.fault) _ s.says c.if-number-low.false c.if-below-number.false);
            within = s.within;
          };
      bounded = c.if-below-number.false;
    }
