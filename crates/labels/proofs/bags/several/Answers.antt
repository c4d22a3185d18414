-- `labels::bags::several` meets its contract. Assumes nothing.
use Rattle.std.proofs.Common.{◌-◌, ◌%◌, arith}
use Rattle.labels.proofs.Words.{number-several, number-none, shifted-word, power-upper}
use Rattle.labels.proofs.Codes.{words-packed}
use Rattle.labels.proofs.bags.several.Goals as goal

pub returns-then-n-lt-WORD_NAMES : goal.returns-then-n-lt-WORD_NAMES
returns-then-n-lt-WORD_NAMES c =
    let a = c.args in
    let few = a.times % 32 in
    let w = shifted-word a.n few c.if-n-lt-WORD_NAMES.true (omega arith) in
    rw (w.0, number-several 24 a.n few (omega arith)) (words-packed _ 0 w.1 (omega arith))

pub returns-then-n : goal.returns-then-n
returns-then-n c =
    let a = c.args in
    let few = a.times % 32 in
    let w = shifted-word (a.n - 12) few (omega arith) (omega arith) in
    rw (w.0, number-several 24 a.n few (omega arith)) (words-packed 0 _ (omega arith) (power-upper a.n few c.if-n-lt-WORD_NAMES.false))

pub returns : goal.returns
returns c = let a = c.args in rw (number-none 24 a.n (a.times % 32) (omega arith)) (words-packed 0 0 (omega arith) (omega arith))
