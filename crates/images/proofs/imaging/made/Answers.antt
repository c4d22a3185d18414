-- `images::imaging::made` meets its contract. Assumes nothing.
use Rattle.std.specs.Prelude.{Some, Bool, true, false}
use Rattle.std.specs.Bool.{then_some}
use mathlib.Core.Path.{◌≡◌, refl, sym, ap, ◌∙◌}
use Prim.Native.Nat.{◌%◌, ◌^◌, ◌<◌}
use lib.ListN.{get_or}
use Rattle.meaning.specs.Labels.{number, label_of, renamed}
use Rattle.labels.specs.declared.Label.{Label}
use Rattle.labels.specs.Packing.{code, packed}
use Rattle.labels.proofs.Codes.{packed-code}
use Rattle.images.specs.Imaging.{pick_offer}
use Rattle.images.proofs.imaging.made.Goals as goal

-- a label that passes is the one that its number packs
passes : (t : Bool) (label : Label) → label.lower < 2 ^ 60 → then_some t label ≡ pick_offer t (Some (packed (code label)))
passes true label h = ap Some (sym (packed-code label h))
passes false label h = refl

pub returns-in-Copy : goal.returns-in-Copy
returns-in-Copy c = rw c.in-Copy.is (ap Some (sym (packed-code c.args.label c.requires.1)))

pub returns-in-Block : goal.returns-in-Block
returns-in-Block c =
    let label = c.args.label in
    rw c.in-Block.is
    (c.then_some.ensures ∙ passes c.clear.result label c.requires.1 ∙ ap (λ t. pick_offer t (Some (packed (code label)))) c.clear.ensures)

pub returns-in-Rename : goal.returns-in-Rename
returns-in-Rename c =
    let w = code c.args.label in
    rw c.in-Rename.is
    (ap Some (c.rename.ensures
    ∙ ap (λ to. packed (number (renamed 24 (λ n. get_or to n 0) (label_of 24 w)) % 2 ^ 124)) (rw c.in-Rename.is at c.requires.0)))

pub returns-in-Comm : goal.returns-in-Comm
returns-in-Comm c = rw c.in-Comm.is (ap Some (sym (packed-code c.args.label c.requires.1)))

pub returns-in-Allow : goal.returns-in-Allow
returns-in-Allow c =
    let label = c.args.label in
    rw c.in-Allow.is
    (c.then_some-in-Allow.ensures ∙ passes c.allowed.result label c.requires.1
    ∙ ap (λ t. pick_offer t (Some (packed (code label)))) c.allowed.ensures)
