-- `words::literals::read_packed` meets its contract: what is left of the word against what is left of the line stays the answer.
-- Assumes nothing.
use Prim.Native.Nat.{◌-◌, ◌<◌, ◌^◌}
use Rattle.table.specs.Decoded.{name_of}
use Rattle.words.proofs.Rests.{Spelling}
use Rattle.words.proofs.literals.read_packed.Given as goal

abbrev pub invariant-loop-next : goal.invariant-loop-next
invariant-loop-next l = (l.left < 256 ^ (8 - l.next)) × Spelling (name_of 8 l.due) (name_of (8 - l.next) l.left) l.rest l.next
