-- `areas::rows::read_label` meets its contract. Assumes nothing.
use native.Mathlib.Omega.{arith}
use lib.ListN.{get_or-eq_default}
use Rattle.labels.proofs.Codes.{words-packed}
use Rattle.areas.specs.Rows.{held}
use Rattle.areas.proofs.Held.{length-held, held-get}
use Rattle.areas.proofs.rows.read_label.Goals as goal

pub returns-then-i-words : goal.returns-then-i-words
returns-then-i-words c = words-packed _ _ (omega arith) (held-get _ _ (omega arith))

pub returns-else-i-words : goal.returns-else-i-words
returns-else-i-words c =
    let a = c.args in
    rw (get_or-eq_default (held a.words.now) 0 {n = a.i} (omega (arith, length-held a.words.now, c.if-i-words.false)))
    (words-packed 0 0 (omega arith) (omega arith))
