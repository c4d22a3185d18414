-- `orderlines::first_line` meets its contract: the line, its order, and its fault.
-- Assumes nothing.
use mathlib.Core.List.{map}
use native.Mathlib.Omega.{arith}
use Rattle.table.specs.Decoded.{name_of}
use Rattle.keyed.proofs.Walks.{line-bad}
use Rattle.orderlines.proofs.OrderLines.{order-formless, order-faulty, order-came}
use Rattle.orderlines.proofs.OrderEnds.{refused-walked}
use Rattle.orderlines.proofs.first_line.Goals as goal

pub returns-in-Err : goal.returns-in-Err
returns-in-Err c =
    let a = c.args in
    refused-walked
    (line-bad a.line a.text.now c.flaw_after-flaw.ensures (order-formless (map (name_of 8) a.names.now) a.text.now c.in-Err.ensures)) (omega arith)

pub returns-in-Some : goal.returns-in-Some
returns-in-Some c =
    let a = c.args in
    refused-walked
    (line-bad a.line a.text.now c.flaw_in-flaw.ensures (order-faulty (map (name_of 8) a.names.now) a.text.now c.in-Ok.ensures c.in-Some.is)) (omega arith)

pub returns : goal.returns
returns c =
    let a = c.args in
    record { came = order-came (map (name_of 8) a.names.now) a.text.now c.in-Ok.ensures a.line c.in_default.is }
