-- `slots::packing::pack` meets its contract: each kind has its number.
-- Assumes nothing.
use native.Mathlib.Omega.{arith}
use Rattle.slots.proofs.packing.pack.Goals as goal

pub packed-requires : goal.packed-requires
packed-requires c = omega arith

pub packed-requires-in-Ref : goal.packed-requires-in-Ref
packed-requires-in-Ref c = omega arith

pub packed-requires-in-Sum : goal.packed-requires-in-Sum
packed-requires-in-Sum c = omega arith

pub packed-requires-in-Cond : goal.packed-requires-in-Cond
packed-requires-in-Cond c = omega arith

pub packed-requires-in-Choice : goal.packed-requires-in-Choice
packed-requires-in-Choice c = omega arith

pub packed-requires-in-IfElse : goal.packed-requires-in-IfElse
packed-requires-in-IfElse c = omega arith

pub packed-requires-in-Seq : goal.packed-requires-in-Seq
packed-requires-in-Seq c = omega arith

pub packed-requires-in-Merge : goal.packed-requires-in-Merge
packed-requires-in-Merge c = omega arith

pub packed-requires-in-LMerge : goal.packed-requires-in-LMerge
packed-requires-in-LMerge c = omega arith

pub packed-requires-in-Sync : goal.packed-requires-in-Sync
packed-requires-in-Sync c = omega arith

pub pack_operator-requires : goal.pack_operator-requires
pack_operator-requires c = tt

pub returns-in-Act : goal.returns-in-Act
returns-in-Act c = rw c.in-Act.is c.packed.ensures

pub returns-in-Ref : goal.returns-in-Ref
returns-in-Ref c = rw c.in-Ref.is c.packed-in-Ref.ensures

pub returns-in-Sum : goal.returns-in-Sum
returns-in-Sum c = rw c.in-Sum.is c.packed-in-Sum.ensures

pub returns-in-Cond : goal.returns-in-Cond
returns-in-Cond c = rw c.in-Cond.is c.packed-in-Cond.ensures

pub returns-in-Choice : goal.returns-in-Choice
returns-in-Choice c = rw c.in-Choice.is c.packed-in-Choice.ensures

pub returns-in-IfElse : goal.returns-in-IfElse
returns-in-IfElse c = rw c.in-IfElse.is c.packed-in-IfElse.ensures

pub returns-in-Seq : goal.returns-in-Seq
returns-in-Seq c = rw c.in-Seq.is c.packed-in-Seq.ensures

pub returns-in-Merge : goal.returns-in-Merge
returns-in-Merge c = rw c.in-Merge.is c.packed-in-Merge.ensures

pub returns-in-LMerge : goal.returns-in-LMerge
returns-in-LMerge c = rw c.in-LMerge.is c.packed-in-LMerge.ensures

pub returns-in-Sync : goal.returns-in-Sync
returns-in-Sync c = rw c.in-Sync.is c.packed-in-Sync.ensures

pub returns-in-Wrap : goal.returns-in-Wrap
returns-in-Wrap c = rw c.in-Wrap.is c.pack_operator.ensures
