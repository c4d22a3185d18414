-- `slots::packing::pack_operator` meets its contract: each operator has its number.
-- Assumes nothing.
use native.Mathlib.Omega.{arith}
use Rattle.slots.proofs.packing.pack_operator.Goals as goal

pub packed-requires : goal.packed-requires
packed-requires c = omega arith

pub packed-requires-in-Hide : goal.packed-requires-in-Hide
packed-requires-in-Hide c = omega arith

pub packed-requires-in-Rename : goal.packed-requires-in-Rename
packed-requires-in-Rename c = omega arith

pub packed-requires-in-Comm : goal.packed-requires-in-Comm
packed-requires-in-Comm c = omega arith

pub packed-requires-in-Allow : goal.packed-requires-in-Allow
packed-requires-in-Allow c = omega arith

pub returns-in-Block : goal.returns-in-Block
returns-in-Block c = rw c.in-Block.is c.packed.ensures

pub returns-in-Hide : goal.returns-in-Hide
returns-in-Hide c = rw c.in-Hide.is c.packed-in-Hide.ensures

pub returns-in-Rename : goal.returns-in-Rename
returns-in-Rename c = rw c.in-Rename.is c.packed-in-Rename.ensures

pub returns-in-Comm : goal.returns-in-Comm
returns-in-Comm c = rw c.in-Comm.is c.packed-in-Comm.ensures

pub returns-in-Allow : goal.returns-in-Allow
returns-in-Allow c = rw c.in-Allow.is c.packed-in-Allow.ensures
