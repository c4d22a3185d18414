-- `operators::way_of` meets its contract: one case for each operator.
-- Assumes nothing.
use Rattle.operators.proofs.way_of.Goals as goal

pub returns-in-Block : goal.returns-in-Block
returns-in-Block c = rw c.in-Block.is

pub returns-in-Hide : goal.returns-in-Hide
returns-in-Hide c = rw c.in-Hide.is

pub returns-in-Rename : goal.returns-in-Rename
returns-in-Rename c = rw c.in-Rename.is

pub returns-in-Comm : goal.returns-in-Comm
returns-in-Comm c = rw c.in-Comm.is

pub returns-in-Allow : goal.returns-in-Allow
returns-in-Allow c = rw c.in-Allow.is
