-- `keyed::names::read_name_line` meets its contract: a name after the key, and the LF after it.
-- Assumes nothing.
use native.Mathlib.Omega.{arith}
use Rattle.meaning.specs.Bytes.{ascii}
use Rattle.table.specs.Decoded.{name_of}
use Rattle.grammar.specs.Text.{word}
use Rattle.grammar.specs.Forms.{name_line}
use Rattle.words.proofs.Steps.{stops, handed_on}
use Rattle.keyed.proofs.Ends.{item-last, place-fits}
use Rattle.keyed.proofs.names.read_name_line.Goals as goal

pub returns-in_err-key : goal.returns-in_err-key
unfolding name_line
returns-in_err-key c = handed_on c.from_residual.ensures.1 (stops _ c.in_err-key.ensures.stands)

pub slice_bounds-read_word-start : goal.slice_bounds-read_word-start
slice_bounds-read_word-start c = c.in_ok-key.ensures.stands.within

pub slice_bounds-read_word-count : goal.slice_bounds-read_word-count
slice_bounds-read_word-count c = let w = c.in_ok-key.ensures.stands.within in omega arith

pub at_end-requires : goal.at_end-requires
at_end-requires c =
    let w = place-fits c.args.text.now c.in_ok-key.key.bytes c.in_ok-key.ensures.stands.within c.read_word.ensures in
    omega arith

pub returns : goal.returns
unfolding name_line
returns c = item-last (name_of 8) word (ascii "name=") c.args.text.now c.in_ok-key.ensures.stands c.read_word.ensures c.at_end.ensures
