-- `shapes::shaping::shape_of` meets its contract: one case for each kind.
-- Assumes nothing.
use Rattle.shapes.proofs.shaping.shape_of.Goals as goal

pub returns-in-Delta : goal.returns-in-Delta
returns-in-Delta c = rw c.in-Delta.is

pub returns-in-Tau : goal.returns-in-Tau
returns-in-Tau c = rw (c.in-Tau.is, c.tau.ensures)

pub returns-in-Act : goal.returns-in-Act
returns-in-Act c = rw (c.in-Act.is, c.single.ensures)

pub returns-in-Ref : goal.returns-in-Ref
returns-in-Ref c = rw c.in-Ref.is

pub returns-in-Sum : goal.returns-in-Sum
returns-in-Sum c = rw c.in-Sum.is

pub returns-in-Cond : goal.returns-in-Cond
returns-in-Cond c = rw c.in-Cond.is

pub returns-in-Choice : goal.returns-in-Choice
returns-in-Choice c = rw c.in-Choice.is

pub returns-in-IfElse : goal.returns-in-IfElse
returns-in-IfElse c = rw c.in-IfElse.is

pub returns-in-Seq : goal.returns-in-Seq
returns-in-Seq c = rw c.in-Seq.is

pub returns-in-Merge : goal.returns-in-Merge
returns-in-Merge c = rw c.in-Merge.is

pub returns-in-LMerge : goal.returns-in-LMerge
returns-in-LMerge c = rw c.in-LMerge.is

pub returns-in-Sync : goal.returns-in-Sync
returns-in-Sync c = rw c.in-Sync.is

pub returns-in-Wrap : goal.returns-in-Wrap
returns-in-Wrap c = rw c.in-Wrap.is
