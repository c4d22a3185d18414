-- What a way makes of a label, put into a set at the start of words of its own; it never shortens a set nor takes it past the room.
-- Assumes nothing.
use Rattle.std.specs.Prelude.{Option, None, Result, Ok}
use mathlib.Core.Path.{◌≡◌, refl, ap, subst}
use mathlib.Core.Bool.{false}
use mathlib.Core.List.{List, [], ◌∷◌}
use Prim.Native.Nat.{ℕ, ◌^◌, ◌≤◌, ◌<◌}
use native.Mathlib.Omega.{arith}
use lib.ListN.{length}
use types.Run.{OneOf, miss}
use denote.Enum.Declared.{tag_of}
use Rattle.labels.specs.declared.Label.{Label}
use Rattle.labels.specs.Packing.{code, packed}
use Rattle.areas.specs.Rows.{held}
use Rattle.areas.proofs.Lent.{lent, back, lent_is, back_is}
use Rattle.sets.specs.declared.TooLarge.{TooLarge}
use Rattle.sets.specs.Building.{done, each, enter, taken, GrownAt}
use Rattle.sets.proofs.Steps.{Steady, steady-taken, steady-enter, going_start, going_end}
use Rattle.extents.specs.Extents.{at_start}
use Rattle.images.specs.declared.Way.{Way}
use Rattle.images.specs.declared.Way.TheVariants.{Copy, Block, Hide, Rename, Comm, Allow}
use Rattle.images.specs.Imaging.{taken_by, offer_of, follows_rules, offered, imaged, MapFor}
use Rattle.images.specs.contracts.Way.{the_type}

pub steady-offered : (room : ℕ) (way : Way) (list : List ℕ) (w : ℕ) → Steady room (offered room way list w)
steady-offered room way list w = steady-taken room (enter room) (offer_of way list w) (steady-enter room)

-- What is offered: nothing, or a label that is put in.
pub taken-nothing : (len : ℕ) (words : List ℕ) → len ≤ length words → GrownAt (at_start len) (λ room. taken (enter room) None) words words (Ok len)
taken-nothing len words h =
    let p = going_end (going_start 0 words len done (omega arith)) (λ s. refl) in
    record { answer = p.0; words = p.1 }

-- what a way makes of a label
pub taken_made : {len : ℕ} (way : Way) (list : List ℕ) (label : Label) {offer : Option Label} {before after : List ℕ} {r : Result ℕ TooLarge}
    → offer ≡ offer_of way list (code label) → GrownAt (at_start len) (λ room. taken (enter room) offer) before after r
    → GrownAt (at_start len) (λ room. offered room way list (code label)) before after r
taken_made {len} way list label {before = before} {after} {r} made g =
    subst (λ (o : Option Label). GrownAt (at_start len) (λ room. taken (enter room) o) before after r) made g

-- a label that is read has nothing above the bits of names
pub lower-small : {label : Label} (n : ℕ) → label ≡ packed n → label.lower < 2 ^ 60
unfolding packed
lower-small n e = omega (arith, ap (λ (l : Label). l.lower) e)

-- What the labels of lent rows give goes into lent words.
abbrev pub Imaged : Way → (list labels operand : List ℕ) → ℕ → (before after : List ℕ) → Result ℕ TooLarge → Type 0
Imaged way list labels operand len before after r =
    GrownAt (at_start len) (λ room. each (imaged room way (taken_by way list) (held operand)) (held labels)) (held before) (held after) r

pub imaged-lent : (way : Way) (list labels operand before now : List ℕ) {len : ℕ} {r : Result ℕ TooLarge}
    → Imaged way (lent list) (lent labels) (lent operand) len (lent before) now r → Imaged way list labels operand len before (back before now) r
imaged-lent way list labels operand before now g =
    rw (back_is before now) (rw (lent_is list, lent_is labels, lent_is operand, lent_is before) at g)

-- The ways but rename and comm: no rules are followed, and any map will do.
pub others : (way : Way) → OneOf (0 ∷ 1 ∷ 2 ∷ 5 ∷ []) (tag_of the_type way) → (follows_rules way ≡ false) × ((list map : List ℕ) → MapFor way list map)
others Copy h = (refl, λ list map. tt)
others Block h = (refl, λ list map. tt)
others Hide h = (refl, λ list map. tt)
others Rename h = absurd (miss (0 ∷ 1 ∷ 2 ∷ 5 ∷ []) 3 tt h)
others Comm h = absurd (miss (0 ∷ 1 ∷ 2 ∷ 5 ∷ []) 4 tt h)
others Allow h = (refl, λ list map. tt)
