-- `label_texts::write_next` meets its contract, case by case of what is written: nothing, a part, or a point and a part.
-- Assumes nothing.
use mathlib.Core.Path.{sym}
use mathlib.Core.List.{◌∷◌}
use native.Mathlib.Nat.{le_refl}
use native.Mathlib.Omega.{arith}
use Rattle.table.specs.Decoded.{name_of}
use Rattle.grammar.specs.Forms.{dot}
use Rattle.grammar.specs.Marks.{part_text}
use Rattle.label_texts.specs.Steps.{next_text}
use Rattle.grammar.proofs.Underway.{Underway, written-nil, underway-start, underway-byte, underway-last}
use Rattle.grammar.proofs.Underway.{underway-room, lent-room, written-within, written-length}
use Rattle.label_texts.proofs.Parts.{next-absent, next-first, next-later}
use Rattle.label_texts.proofs.write_next.Goals as goal
use Rattle.label_texts.proofs.write_next.Goals.{Else-written-eq0, Start}

pub returns-then-times-eq0 : goal.returns-then-times-eq0
returns-then-times-eq0 c =
    let a = c.args in
    rw (next-absent a.written (name_of 8 a.name) a.times c.if-times-eq0.true) (written-nil a.text.now)

pub write_part-requires : goal.write_part-requires
write_part-requires c =
    rw (next-first c.args.written (name_of 8 c.args.name) c.args.times c.if-times-eq0.false c.if-written-eq0.true) at c.requires

pub returns-then-written-eq0 : goal.returns-then-written-eq0
returns-then-written-eq0 c =
    let a = c.args in
    rw (next-first a.written (name_of 8 a.name) a.times c.if-times-eq0.false c.if-written-eq0.true) c.write_part.ensures

-- a point and the part are to come
abbrev entry : Else-written-eq0 → Start
entry c = c.before.before.before

pointed : (c : Else-written-eq0) →
    let a = (entry c).args in
    Underway (next_text a.written (name_of 8 a.name) a.times) (dot ∷ part_text (name_of 8 a.name) a.times) a.text.now a.text.now 0
pointed c =
    let a = (entry c).args in
    underway-start (sym (next-later a.written (name_of 8 a.name) a.times c.if-times-eq0.false c.if-written-eq0.false)) (entry c).requires

pub returns : goal.returns
returns c = underway-last (underway-byte (pointed (goal.at.returns c).Else-written-eq0)) c.write_part-2.ensures

pub bounds-text-0 : goal.bounds-text-0
bounds-text-0 c = omega (arith, underway-room (pointed (goal.at.bounds-text-0 c).Else-written-eq0))

pub slice_bounds-write_part-count : goal.slice_bounds-write_part-count
slice_bounds-write_part-count c = omega (arith, underway-room (underway-byte (pointed (goal.at.slice_bounds-write_part-count c).Else-written-eq0)))

pub slice_bounds-write_part-start : goal.slice_bounds-write_part-start
slice_bounds-write_part-start c = slice_bounds-write_part-count c

pub slice_bounds-write_part-end : goal.slice_bounds-write_part-end
slice_bounds-write_part-end c = le_refl _

pub write_part-requires-2 : goal.write_part-requires-2
write_part-requires-2 c = lent-room (underway-byte (pointed (goal.at.write_part-requires-2 c).Else-written-eq0))

pub overflow_add-result : goal.overflow_add-result
overflow_add-result c = omega (arith, written-within (entry (goal.at.overflow_add-result c).Else-written-eq0).requires (returns c))

pub shape_of-text : goal.shape_of-text
shape_of-text c = written-length (entry (goal.at.shape_of-text c).Else-written-eq0).requires (returns c)
