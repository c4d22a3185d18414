-- `memory::remember` meets its contract: the three labels of an entry are written one after the other.
-- Assumes nothing.
use native.Mathlib.Omega.{arith}
use Rattle.labels.specs.Packing.{code}
use Rattle.labels.proofs.Codes.{code_of}
use Rattle.areas.specs.Rows.{held}
use Rattle.memory.proofs.Holding.{written, nowhere-written}
use Rattle.memory.proofs.remember.Goals as goal

pub returns-then-labels_in-eq0 : goal.returns-then-labels_in-eq0
returns-then-labels_in-eq0 c =
    let a = c.args in
    nowhere-written (held a.memory.now) a.before (code a.state.rest) (code a.state.sum)
    (omega (arith, c.labels_in.ensures, c.if-labels_in-eq0.true))

pub returns : goal.returns
returns c =
    let a = c.args in
    written (held a.memory.now) (held c.write_label.new.words) (held c.write_label-2.new.words) (held c.write_label-3.new.words)
    c.slot-way.result c.slot.result (code c.label_of.result) a.before (code a.state.rest)
    (code a.state.sum) c.slot-way.ensures.0 c.slot.ensures.0
    (code_of c.label_of.ensures) c.write_label.ensures c.write_label-2.ensures
    c.write_label-3.ensures
