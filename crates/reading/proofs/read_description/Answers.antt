-- `reading::read_description` meets its contract: refusal 1 first, then the lines; after another refusal the areas are cleared.
-- Assumes nothing.
use mathlib.Core.Path.{sym, ◌∙◌}
use lib.ListN.{length}
use Rattle.reading.proofs.Stores.{too-much-stored, rooms, kept-stored, cleared-stored}
use Rattle.reading.proofs.read_description.Goals as goal

pub returns-then-too_much : goal.returns-then-too_much
returns-then-too_much c = too-much-stored (sym c.too_much.ensures ∙ c.if-too_much.true)

pub read_lines-read-requires : goal.read_lines-read-requires
read_lines-read-requires c =
    let a = c.args in
    rooms (length a.text.now) (length a.table.now) (length a.listed.now) (sym c.too_much.ensures ∙ c.if-too_much.false)

pub returns-then-is_err : goal.returns-then-is_err
returns-then-is_err c =
    let k = cleared-stored c.read_lines-read.ensures (sym c.too_much.ensures ∙ c.if-too_much.false) (sym c.is_err.ensures.value ∙ c.if-is_err.true) in
    rw (c.clear.ensures, c.clear-then-is_err.ensures, c.clear-then-is_err-2.ensures) k

pub returns-else-is_err : goal.returns-else-is_err
returns-else-is_err c = kept-stored c.read_lines-read.ensures (sym c.too_much.ensures ∙ c.if-too_much.false) (sym c.is_err.ensures.value ∙ c.if-is_err.false)
