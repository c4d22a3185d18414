-- `tails::read_tail` meets its contract: the kinds with a list and those without, where there is room.
-- Assumes nothing.
use mathlib.Core.List.{map}
use native.Mathlib.Omega.{arith}
use Rattle.table.specs.Decoded.{name_of}
use Rattle.tails.specs.Tails.{tail_of}
use Rattle.tails.proofs.Operands.{line-become}
use Rattle.tails.proofs.Room.{many-names, plain-room, wrap-room}
use Rattle.tails.proofs.read_tail.Goals as goal

pub returns-then-names-gt-NAMES : goal.returns-then-names-gt-NAMES
returns-then-names-gt-NAMES c =
    let a = c.args in
    many-names a.names.now (tail_of a.k a.rest.now) a.rest.now c.if-names-gt-NAMES.true

pub returns-then-k-lt12 : goal.returns-then-k-lt12
returns-then-k-lt12 c =
    let a = c.args in
    line-become (map (name_of 8) a.names.now) a.bounds a.rest.now a.store.now a.store.now c.read_plain.result
    (plain-room a.names.now c.if-names-gt-NAMES.false a.k a.rest.now c.if-k-lt12.true)
    (c.read_plain.ensures a.store.now)

pub read_wrap-requires : goal.read_wrap-requires
read_wrap-requires c = omega arith

pub returns : goal.returns
returns c =
    let a = c.args in
    line-become (map (name_of 8) a.names.now) a.bounds a.rest.now a.store.now _ c.read_wrap.result
    (wrap-room a.names.now c.if-names-gt-NAMES.false a.k a.rest.now c.if-k-lt12.false)
    c.read_wrap.ensures
