-- `rimecutter::calls::respond_full` meets its contract: why the text was not read, or what the rounds found in areas that are enough.
-- Assumes nothing.
use Rattle.std.specs.Prelude.{Err}
use mathlib.Core.Path.{refl}
use Rattle.std.proofs.lemmas.Result.{err_from_is_err_and}
use Rattle.rimecutter.specs.declared.Refusal.TheVariants.{TooLarge}
use Rattle.rimecutter.proofs.Readings.{fine-read, refused-read}
use Rattle.rimecutter.proofs.Responses.{roomy-refused, cleared-responded, full-worked, unprinted}
use Rattle.rimecutter.proofs.calls.respond_full.Goals as goal

pub returns-in-Err : goal.returns-in-Err
returns-in-Err c =
    cleared-responded c.args.work.now c.requires.0 _ c.args.answer.now _
    (roomy-refused c.args.description.now _ c.args.answer.now _ (refused-read c.in-Err.ensures refl refl refl) refl)
    (rw c.from.ensures at c.cleared.ensures)

pub returns-in_err-found : goal.returns-in_err-found
returns-in_err-found c =
    let p = err_from_is_err_and c.from_residual.result c.from_residual.ensures.1 in
    rw (p.1, p.2)
    (full-worked (fine-read c.in-Ok.ensures refl refl refl) (Err TooLarge) unprinted _ c.in_err-found.ensures refl c.requires.0 c.requires.1)

pub returns : goal.returns
returns c =
    full-worked (fine-read c.in-Ok.ensures refl refl refl) _ (λ l e. c.names_by_value.ensures) _ c.in_ok-found.ensures refl c.requires.0 c.requires.1
