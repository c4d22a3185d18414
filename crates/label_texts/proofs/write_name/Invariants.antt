-- `label_texts::write_name` meets its contract: the bytes written and those left in the word make up the name.
-- Assumes nothing.
use Prim.Native.Nat.{◌-◌}
use Rattle.table.specs.Decoded.{name_of}
use Rattle.grammar.proofs.Underway.{Underway}
use Rattle.label_texts.proofs.write_name.Given as goal

abbrev pub invariant-loop-at : goal.invariant-loop-at
invariant-loop-at l = Underway (name_of 8 l.name) (name_of (8 - l.at) l.rest) l.initial.text l.text l.at
