-- `rimecutter::calls::respond` meets its contract: refusal 1 for the areas, what is told in small areas, or else in those that are enough.
-- Assumes nothing.
use mathlib.Core.Path.{refl, sym, ◌∙◌}
use native.Mathlib.Omega.{arith}
use lib.ListN.{length}
use Rattle.rimecutter.proofs.Arms.{untold, told}
use Rattle.rimecutter.proofs.Responses.{long-enough, short-responded, cleared-responded, long-responded}
use Rattle.rimecutter.proofs.calls.respond.Goals as goal

pub returns-then-too_short : goal.returns-then-too_short
returns-then-too_short c =
    let a = c.args in
    short-responded a.description.now a.work.now a.answer.now _ refl (sym c.too_short.ensures ∙ c.if-too_short.true)

pub respond_full-requires : goal.respond_full-requires
respond_full-requires c =
    let a = c.args in
    let long = sym c.too_short.ensures ∙ c.if-too_short.false in
    let fits = long-enough (length a.work.now) (length a.answer.now) long in
    (fits.0, omega (arith, c.respond_few-tried.auto.answer))

pub returns-then-is_large : goal.returns-then-is_large
returns-then-is_large c =
    let long = sym c.too_short.ensures ∙ c.if-too_short.false in
    let same = c.respond_few-tried.ensures.untold (untold _ (sym c.is_large.ensures ∙ c.if-is_large.true)) in
    long-responded c.args.description.now long (rw same at c.respond_full.ensures)

pub returns : goal.returns
returns c =
    let a = c.args in
    let long = sym c.too_short.ensures ∙ c.if-too_short.false in
    let found = c.respond_few-tried in
    long-responded a.description.now long
    (cleared-responded a.work.now (long-enough (length a.work.now) (length a.answer.now) long).0 _ a.answer.now _
    (found.ensures.told (told _ (sym c.is_large.ensures ∙ c.if-is_large.false))) c.cleared.ensures)
