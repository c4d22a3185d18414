-- `reading::whole::read_lines` meets its contract: the lines before the terms, and those from them on, where there is room for the lists.
-- Assumes nothing.
use mathlib.Core.Path.{refl}
use native.Mathlib.Omega.{arith}
use Rattle.std.proofs.lemmas.Result.{err_from_is_err_and}
use Rattle.words.proofs.Steps.{rest-drop}
use Rattle.reading.proofs.Sequels.{head-refused, head-within, head-crowded, head_read}
use Rattle.reading.proofs.whole.read_lines.Goals as goal

pub returns-in_err-head : goal.returns-in_err-head
returns-in_err-head c =
    let a = c.args in
    let p = err_from_is_err_and c.from_residual.result c.from_residual.ensures.1 in
    rw (p.1, p.2) (head-refused c.requires.0 c.in_err-head.ensures a.lists.now a.listed.now refl)

pub returns-then-lists-count : goal.returns-then-lists-count
returns-then-lists-count c =
    let a = c.args in
    head-crowded c.requires.0 c.in_ok-head.ensures refl a.lists.now a.listed.now (omega (arith, c.if-lists-count.true))

pub returns : goal.returns
returns c =
    let a = c.args in
    let within = head-within c.requires.0 c.in_ok-head.ensures refl in
    head_read c.requires.0 c.in_ok-head.ensures refl a.lists.now a.listed.now (omega (arith, c.if-lists-count.false))
    (rest-drop a.text.now c.in_ok-head.head.bytes within) c.from_terms.ensures
