-- `rimecutter::write_response` meets its contract: the text of each answer, by what writes it.
-- Assumes nothing.
use Rattle.std.specs.Prelude.{Ok, Err}
use mathlib.Core.Path.{◌≡◌, refl, sym, ap, ◌∙◌}
use native.Mathlib.Nat.{min-eq_left}
use native.Mathlib.Omega.{arith}
use lib.ListN.{length-take}
use Rattle.areas.proofs.Held.{held-take}
use Rattle.rimecutter.specs.declared.Refusal.{Refusal}
use Rattle.rimecutter.specs.declared.Refusal.TheVariants.{TooLong, Bad, TooLarge}
use Rattle.rimecutter.specs.Answers.{Answer, answer_in}
use Rattle.rimecutter.proofs.Texts.{words-there, unwritten, written}
use Rattle.rimecutter.proofs.write_response.Goals as goal

-- the answer of a refusal
abbrev refusing : Refusal → Answer
refusing e = Err e

pub returns-then-labels_in-labels : goal.returns-then-labels_in-labels
returns-then-labels_in-labels c = unwritten _ (ap answer_in c.in-Ok.is) c.labels_in.ensures c.if-labels_in-labels.true

pub overflow_mul-labels : goal.overflow_mul-labels
overflow_mul-labels c = omega (arith, words-there _ c.labels_in.ensures c.if-labels_in-labels.false)

pub slice_bounds-write_answer-end : goal.slice_bounds-write_answer-end
slice_bounds-write_answer-end c =
    let count = c.labels_in.ensures in
    sym (rw length-take (min-eq_left (words-there _ count c.if-labels_in-labels.false)))

pub returns-else-labels_in-labels : goal.returns-else-labels_in-labels
returns-else-labels_in-labels c =
    rw c.in-Ok.is (written (Ok c.in-Ok.response.listed) refl (rw held-take at c.write_answer.ensures))

pub returns-in-Err-TooLong : goal.returns-in-Err-TooLong
returns-in-Err-TooLong c =
    let why : ◌≡◌ {A = Refusal} c.in-Err-TooLong.field-0 TooLong = rw c.in-Err-TooLong.is at c.in-Err-TooLong.field-0-is in
    written (Err TooLong) (ap answer_in c.in-Err-TooLong.is ∙ ap refusing why) c.write_refusal.ensures

pub returns-in-Err-Bad : goal.returns-in-Err-Bad
returns-in-Err-Bad c =
    let why : ◌≡◌ {A = Refusal} c.in-Err-Bad.field-0 (Bad c.in-Err-Bad.bad) = rw c.in-Err-Bad.is at c.in-Err-Bad.field-0-is in
    written (Err (Bad c.in-Err-Bad.bad)) (ap answer_in c.in-Err-Bad.is ∙ ap refusing why)
    (rw c.number_of.ensures at c.write_refusal-in-Err-Bad.ensures)

pub returns-in-Err-TooLarge : goal.returns-in-Err-TooLarge
returns-in-Err-TooLarge c =
    let why : ◌≡◌ {A = Refusal} c.in-Err-TooLarge.field-0 TooLarge = rw c.in-Err-TooLarge.is at c.in-Err-TooLarge.field-0-is in
    written (Err TooLarge) (ap answer_in c.in-Err-TooLarge.is ∙ ap refusing why) c.write_refusal-in-Err-TooLarge.ensures
