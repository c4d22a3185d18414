-- `syncs::is_multi` meets its contract: the kind of the term in the slot.
-- Assumes nothing.
use mathlib.Core.Path.{ap, ◌∙◌}
use borrow.Enum.Refused.{opened}
use Rattle.syncs.specs.Merging.{multi_kind}
use Rattle.slots.specs.Packing.{word_term}
use Rattle.syncs.proofs.ByKind.{is-kind, no_kind}
use Rattle.syncs.proofs.is_multi.Goals as goal

pub returns-in-Delta : goal.returns-in-Delta
returns-in-Delta c =
    is-kind c.unpack.result c.in-Delta.in-Delta-own.keys1
    ∙ ap multi_kind (c.unpack.ensures ∙ ap (word_term 0) c.word_at.ensures)

pub returns-in_default : goal.returns-in_default
returns-in_default c =
    no_kind c.unpack.result (opened c.in_default.in_default-own.keys2)
    ∙ ap multi_kind (c.unpack.ensures ∙ ap (word_term 0) c.word_at.ensures)
