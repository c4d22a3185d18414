-- `words::names::read_word` meets its contract: byte by byte, each above those before it.
-- Assumes nothing.
use Rattle.words.proofs.WordReading.{Worded}
use Rattle.words.proofs.names.read_word.Given as goal

abbrev pub invariant-loop-bytes : goal.invariant-loop-bytes
invariant-loop-bytes l = Worded l.rest 0 l.value l.bytes l.bytes
