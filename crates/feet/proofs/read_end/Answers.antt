-- `feet::read_end` meets its contract: the bodies and the root, and the order, where there is room.
-- Assumes nothing.
use mathlib.Core.Path.{refl}
use native.Mathlib.Omega.{arith}
use lib.ListN.{length}
use Rattle.std.proofs.lemmas.Result.{err_from_is_err_and}
use Rattle.words.proofs.Steps.{rest-drop}
use Rattle.sections.proofs.Given.{given-roomy, given-narrow, bad-first, room-told, no-room-told}
use Rattle.feet.specs.Ends.{EndRoom}
use Rattle.feet.proofs.EndLines.{foot-refused, foot-taken, end_read}
use Rattle.feet.proofs.read_end.Goals as goal

pub returns-then-not-has_room : goal.returns-then-not-has_room
returns-then-not-has_room c =
    given-narrow (no-room-told c.has_room.result c.if-not-has_room.true-raw c.has_room.ensures)
    (record { answered = bad-first c.first_flaw-flaw.ensures; tabled = refl; ordered = refl })

pub read_foot-requires : goal.read_foot-requires
read_foot-requires c = room-told c.has_room.result c.if-not-has_room.false-raw c.has_room.ensures

pub returns-in_err-at : goal.returns-in_err-at
returns-in_err-at c =
    let p = err_from_is_err_and c.from_residual.result c.from_residual.ensures.1 in
    rw (p.1, p.2)
    (given-roomy (room-told c.has_room.result c.if-not-has_room.false-raw c.has_room.ensures)
    (foot-refused c.in_err-at.ensures c.args.listed.now refl))

pub slice_bounds-take_order-count : goal.slice_bounds-take_order-count
slice_bounds-take_order-count c = foot-taken c.in_ok-at.ensures refl

pub slice_bounds-take_order-start : goal.slice_bounds-take_order-start
slice_bounds-take_order-start c = slice_bounds-take_order-count c

pub overflow_add-line : goal.overflow_add-line
overflow_add-line c =
    let a = c.args in
    let room : EndRoom a.line a.equations (length a.table.now) =
    room-told c.has_room.result c.if-not-has_room.false-raw c.has_room.ensures in
    omega (arith, room.0, room.1)

pub overflow_add-line-2 : goal.overflow_add-line-2
overflow_add-line-2 c =
    let a = c.args in
    let room : EndRoom a.line a.equations (length a.table.now) =
    room-told c.has_room.result c.if-not-has_room.false-raw c.has_room.ensures in
    omega (arith, room.0, room.1)

pub returns : goal.returns
returns c =
    let a = c.args in
    let room : EndRoom a.line a.equations (length a.table.now) =
    room-told c.has_room.result c.if-not-has_room.false-raw c.has_room.ensures in
    given-roomy room
    (end_read c.in_ok-at.ensures refl (omega (arith, room.0, room.1))
    (rest-drop a.text.now c.in_ok-at.at (foot-taken c.in_ok-at.ensures refl))
    c.names_of.ensures c.take_order.ensures)
