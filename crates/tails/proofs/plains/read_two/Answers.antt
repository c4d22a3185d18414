-- `tails::plains::read_two` meets its contract: a number, the last one, and the end of the line.
-- Assumes nothing.
use mathlib.Core.Path.{◌≡◌, refl, sym, ap, subst, ◌∙◌}
use Prim.Native.Nat.{ℕ, ◌-◌}
use lib.ListN.{length, drop}
use Rattle.table.specs.Terms.{IsPlain, bare_term}
use Rattle.grammar.specs.Forms.{of_last, of_two}
use Rattle.words.proofs.Steps.{told_err, become}
use Rattle.tails.specs.Plains.{made_of}
use Rattle.tails.proofs.Operands.{plain-kind, alone-with, second_at, last-stuck, last-read, two-stuck, two-read, plain-become}
use Rattle.tails.proofs.plains.read_two.Goals as goal
use Rattle.tails.proofs.plains.read_two.Goals.{In_ok-first}

pub returns-in_err-first : goal.returns-in_err-first
returns-in_err-first c =
    rw (told_err c.in_err-first.field-0.0 c.from_residual.ensures.1)
    (two-stuck c.args.rest.now 0 (made_of c.args.k) c.in_err-first.ensures.stands)

-- what is due from where the first number ends, wherever that number begins
behind : (c : In_ok-first) {from : ℕ}
    → let a = c.args in
    let first = c.in_ok-first.first in
    from ≡ length a.rest.now - 1
    → of_last (made_of a.k first.value) (second_at from) (drop first.bytes a.rest.now) ≡ of_two (made_of a.k) a.rest.now
behind c e =
    let a = c.args in
    two-read a.rest.now 0 (made_of a.k) e c.in_ok-first.ensures.stands.says

pub returns-in_err-second : goal.returns-in_err-second
returns-in_err-second c =
    let a = c.args in
    let first = c.in_ok-first.first in
    rw (told_err c.in_err-second.field-0.0 c.from_residual-in_err-second.ensures.1)
    (become (behind (goal.at.returns-in_err-second c).In_ok-first refl)
    (last-stuck a.rest.now first.bytes (made_of a.k first.value) (second_at (length a.rest.now - 1)) c.in_err-second.ensures.stands))

pub finish-requires : goal.finish-requires
finish-requires c =
    (c.in_ok-second.ensures.stands.within, subst IsPlain (sym c.plain-term.ensures) (plain-kind c.args.k c.in_ok-first.first.value c.in_ok-second.second.value))

pub returns : goal.returns
returns c =
    let a = c.args in
    let from = c.left_at in
    let first = c.in_ok-first.first in
    plain-become a.bounds a.rest.now c.finish.result
    (ap (λ x. alone-with x (second_at from.result c.left_at-2.result) (drop c.in_ok-second.second.bytes a.rest.now))
    (ap bare_term c.plain-term.ensures)
    ∙ last-read a.rest.now first.bytes (made_of a.k first.value) (second_at from.result) c.left_at-2.ensures c.in_ok-second.ensures.stands.says
    ∙ behind (goal.at.returns c).In_ok-first from.ensures)
    c.finish.ensures
