-- `keyed::numbers::read_count` meets its contract: a number after the key, and the LF after it.
-- Assumes nothing.
use native.Mathlib.Omega.{arith}
use Rattle.grammar.specs.Text.{number}
use Rattle.grammar.specs.Forms.{count_line}
use Rattle.words.proofs.Steps.{stops, handed_on}
use Rattle.keyed.proofs.Ends.{item-last, place-fits}
use Rattle.keyed.proofs.numbers.read_count.Goals as goal

pub returns-in_err-start : goal.returns-in_err-start
unfolding count_line
returns-in_err-start c = handed_on c.from_residual.ensures.1 (stops _ c.in_err-start.ensures.stands)

pub slice_bounds-read_number-start : goal.slice_bounds-read_number-start
slice_bounds-read_number-start c = c.in_ok-start.ensures.stands.within

pub slice_bounds-read_number-count : goal.slice_bounds-read_number-count
slice_bounds-read_number-count c = let w = c.in_ok-start.ensures.stands.within in omega arith

pub at_end-requires : goal.at_end-requires
at_end-requires c =
    let w = place-fits c.args.text.now c.in_ok-start.start.bytes c.in_ok-start.ensures.stands.within c.read_number.ensures in
    omega arith

pub returns : goal.returns
unfolding count_line
returns c = item-last (λ n. n) number c.args.key.now c.args.text.now c.in_ok-start.ensures.stands c.read_number.ensures c.at_end.ensures
