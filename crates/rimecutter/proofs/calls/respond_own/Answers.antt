-- `rimecutter::calls::respond_own` meets its contract: why the text was not read, or what the rounds found in areas of its own that are enough.
-- Assumes nothing.
use Rattle.std.specs.Prelude.{Err}
use mathlib.Core.Path.{refl}
use Rattle.std.proofs.lemmas.Result.{err_from_is_err_and}
use Rattle.rimecutter.specs.declared.Refusal.TheVariants.{TooLarge}
use Rattle.rimecutter.proofs.Readings.{fine-read, refused-read}
use Rattle.rimecutter.proofs.Responses.{own-refused, own-worked, unprinted}
use Rattle.rimecutter.proofs.calls.respond_own.Goals as goal

pub returns-in_err-order : goal.returns-in_err-order
returns-in_err-order c =
    let p = err_from_is_err_and c.from_residual.result c.from_residual.ensures.1 in
    rw (p.1, p.2) (own-refused c.args.description.now _ c.args.answer.now _ (refused-read c.in_err-order.ensures refl refl refl) refl)

pub returns-in_err-found : goal.returns-in_err-found
returns-in_err-found c =
    let p = err_from_is_err_and c.from_residual-in_err-found.result c.from_residual-in_err-found.ensures.1 in
    rw (p.1, p.2) (own-worked (fine-read c.in_ok-order.ensures refl refl refl) (Err TooLarge) unprinted _ c.in_err-found.ensures refl c.requires)

pub returns : goal.returns
returns c =
    own-worked (fine-read c.in_ok-order.ensures refl refl refl) _ (λ l e. c.names_by_value.ensures) _ c.in_ok-found.ensures refl c.requires
