-- `conversions::narrow_all` meets its contract: it is refused, or the lower words are laid. Assumes nothing.
use mathlib.Core.Path.{sym, ◌∙◌}
use mathlib.Core.Bool.{true, false}
use mathlib.Core.Logic.{inl, inr}
use native.Mathlib.Omega.{arith}
use borrow.Author.Tests.{ltb-false}
use Rattle.conversions.proofs.Answers.{made, refused, narrow_short, narrow-looked}
use Rattle.conversions.proofs.narrow_all.Goals as goal

pub returns-then-words-ne0 : goal.returns-then-words-ne0
returns-then-words-ne0 c =
    let a = c.args in
    refused (narrow_short a.words.now a.numbers.now (elim c.then-words-ne0.branch [
      | goal.then-words-ne0-via-then-words-ne0 w ↦ inl w.if-words-ne0.true
      | goal.then-words-ne0-via-else-words-ne0+then-numbers-words w ↦ inr w.if-numbers-words.true
    ]))

pub returns-then-is_in_use : goal.returns-then-is_in_use
returns-then-is_in_use c =
    let a = c.args in
    refused
    (narrow-looked a.words.now a.numbers.now (omega arith) (omega (arith, ltb-false)) true
    (sym c.if-is_in_use.true ∙ c.is_in_use.ensures))

pub returns : goal.returns
returns c =
    let a = c.args in
    made
    (narrow-looked a.words.now a.numbers.now (omega arith) (omega (arith, ltb-false)) false
    (sym c.if-is_in_use.false ∙ c.is_in_use.ensures))
    c.lay_lowers.ensures
