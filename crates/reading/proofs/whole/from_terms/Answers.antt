-- `reading::whole::from_terms` meets its contract: the terms, and the lines after them.
-- Assumes nothing.
use mathlib.Core.Path.{refl}
use Rattle.std.proofs.lemmas.Result.{err_from_is_err_and}
use Rattle.words.proofs.Steps.{rest-drop}
use Rattle.reading.proofs.Sequels.{terms-within, terms-refused, terms-read}
use Rattle.reading.proofs.whole.from_terms.Goals as goal

pub returns-in_err-at : goal.returns-in_err-at
returns-in_err-at c =
    let p = err_from_is_err_and c.from_residual.result c.from_residual.ensures.1 in
    rw (p.1, p.2) (terms-refused c.names_of.ensures c.bodies_of-equations.ensures c.requires c.in_err-at.ensures c.args.listed.now refl)

pub slice_bounds-read_end-count : goal.slice_bounds-read_end-count
slice_bounds-read_end-count c = terms-within c.names_of.ensures c.bodies_of-equations.ensures c.requires c.in_ok-at.ensures refl

pub slice_bounds-read_end-start : goal.slice_bounds-read_end-start
slice_bounds-read_end-start c = slice_bounds-read_end-count c

pub returns-in_err-last : goal.returns-in_err-last
returns-in_err-last c =
    let within = terms-within c.names_of.ensures c.bodies_of-equations.ensures c.requires c.in_ok-at.ensures refl in
    let p = err_from_is_err_and c.from_residual-in_err-last.result c.from_residual-in_err-last.ensures.1 in
    rw (p.1, p.2)
    (terms-read c.names_of.ensures c.bodies_of-equations.ensures c.requires c.in_ok-at.ensures c.args.listed.now refl
    (rest-drop c.args.text.now c.in_ok-at.at within) c.in_err-last.ensures)

pub returns : goal.returns
returns c =
    let within = terms-within c.names_of.ensures c.bodies_of-equations.ensures c.requires c.in_ok-at.ensures refl in
    terms-read c.names_of.ensures c.bodies_of-equations.ensures c.requires c.in_ok-at.ensures c.args.listed.now refl
    (rest-drop c.args.text.now c.in_ok-at.at within) c.in_ok-last.ensures
