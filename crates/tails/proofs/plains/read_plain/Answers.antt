-- `tails::plains::read_plain` meets its contract: what follows the word is read by the kind's place.
-- Assumes nothing.
use mathlib.Core.List.{map}
use native.Mathlib.Omega.{arith}
use Rattle.table.specs.Decoded.{name_of}
use Rattle.grammar.specs.Forms.{alone}
use Rattle.tails.proofs.Operands.{storeless-become, plain→storeless, tail-act, tail-tau, tail-delta, tail-one, tail-two}
use Rattle.tails.proofs.plains.read_plain.Goals as goal

pub finish-requires : goal.finish-requires
finish-requires c = (omega arith, tt)

pub returns-then-k-lt1 : goal.returns-then-k-lt1
unfolding alone
returns-then-k-lt1 c =
    let a = c.args in
    plain→storeless a.bounds a.rest.now c.finish.result
    (tail-delta a.k a.rest.now c.if-k-lt1.true) (map (name_of 8) a.names.now) c.finish.ensures

pub finish-requires-then-k-lt2 : goal.finish-requires-then-k-lt2
finish-requires-then-k-lt2 c = (omega arith, tt)

pub returns-then-k-lt2 : goal.returns-then-k-lt2
unfolding alone
returns-then-k-lt2 c =
    let a = c.args in
    plain→storeless a.bounds a.rest.now c.finish-then-k-lt2.result
    (tail-tau a.k a.rest.now c.if-k-lt1.false c.if-k-lt2.true) (map (name_of 8) a.names.now) c.finish-then-k-lt2.ensures

pub returns-then-k-lt3 : goal.returns-then-k-lt3
returns-then-k-lt3 c =
    let a = c.args in
    storeless-become a.bounds a.rest.now c.read_act.result
    (tail-act a.k a.rest.now c.if-k-lt2.false c.if-k-lt3.true) (map (name_of 8) a.names.now) (c.read_act.ensures a.bounds)

pub returns-then-k-lt6 : goal.returns-then-k-lt6
returns-then-k-lt6 c =
    let a = c.args in
    plain→storeless a.bounds a.rest.now c.read_one.result
    (tail-one a.k a.rest.now c.if-k-lt3.false c.if-k-lt6.true) (map (name_of 8) a.names.now) c.read_one.ensures

pub returns : goal.returns
returns c =
    let a = c.args in
    plain→storeless a.bounds a.rest.now c.read_two.result (tail-two a.k a.rest.now c.if-k-lt6.false)
    (map (name_of 8) a.names.now) c.read_two.ensures
