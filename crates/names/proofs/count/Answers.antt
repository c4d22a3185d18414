-- `names::count` meets its contract. Assumes nothing.
use mathlib.Core.Path.{sym}
use native.Mathlib.Omega.{arith}
use lib.Dec.{lit<}
use lib.ListN.{get_or-eq_default}
use Rattle.meaning.proofs.Digits.{length-label_of}
use Rattle.labels.specs.Packing.{code}
use Rattle.labels.specs.Bags.{bag}
use Rattle.names.proofs.Counts.{lower-count, upper-count}
use Rattle.names.proofs.count.Goals as goal

pub returns-then-n-lt-WORD_NAMES : goal.returns-then-n-lt-WORD_NAMES
returns-then-n-lt-WORD_NAMES c =
    let a = c.args in
    record { exact = sym (lower-count a.a a.n (omega arith)); small = omega arith }

pub returns-then-n : goal.returns-then-n
returns-then-n c =
    let a = c.args in
    record { exact = sym (upper-count a.a a.n (omega arith) (omega arith)); small = omega arith }

pub returns : goal.returns
returns c =
    let a = c.args in
    let l = length-label_of 25 (code a.a) in
    record { exact = sym (get_or-eq_default (bag (code a.a)) 0 (omega arith)); small = lit< tt }
