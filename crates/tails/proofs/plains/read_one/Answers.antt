-- `tails::plains::read_one` meets its contract: a number, and the end of the line.
-- Assumes nothing.
use mathlib.Core.Path.{sym, ap, subst, ◌∙◌}
use lib.ListN.{drop}
use Rattle.table.specs.Terms.{IsPlain, bare_term}
use Rattle.words.proofs.Steps.{told_err}
use Rattle.tails.specs.Plains.{made_of}
use Rattle.tails.proofs.Operands.{plain-kind, alone-with, once_at, last-stuck, last-read, plain-become}
use Rattle.tails.proofs.plains.read_one.Goals as goal

pub returns-in_err-only : goal.returns-in_err-only
returns-in_err-only c =
    rw (told_err c.in_err-only.field-0.0 c.from_residual.ensures.1)
    (last-stuck c.args.rest.now 0 (made_of c.args.k 0) once_at c.in_err-only.ensures.stands)

pub finish-requires : goal.finish-requires
finish-requires c =
    (c.in_ok-only.ensures.stands.within, subst IsPlain (sym c.plain-term.ensures) (plain-kind c.args.k 0 c.in_ok-only.only.value))

pub returns : goal.returns
returns c =
    let a = c.args in
    plain-become a.bounds a.rest.now c.finish.result
    (ap (λ x. alone-with x (once_at c.left_at-from.result) (drop c.in_ok-only.only.bytes a.rest.now)) (ap bare_term c.plain-term.ensures)
    ∙ last-read a.rest.now 0 (made_of a.k 0) once_at c.left_at-from.ensures c.in_ok-only.ensures.stands.says)
    c.finish.ensures
