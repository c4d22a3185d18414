-- `lists::is_none` meets its contract: only a list of labels can be `none`.
-- Assumes nothing.
use mathlib.Core.Path.{◌≡◌, refl}
use mathlib.Core.Bool.{Bool, false, ◌&&◌}
use mathlib.Core.List.{[], ◌∷◌}
use types.Run.{OneOf, miss}
use denote.Enum.Declared.{tag_of}
use Rattle.lists.specs.declared.ListKind.{ListKind}
use Rattle.lists.specs.declared.ListKind.TheVariants.{Names, Pairs, Rules, Labels}
use Rattle.lists.specs.Lists.{takes_none}
use Rattle.lists.specs.contracts.ListKind.{the_type}
use Rattle.lists.proofs.is_none.Goals as goal

pub returns-in-Labels : goal.returns-in-Labels
returns-in-Labels c = rw c.in-Labels.is c.is_rest.ensures

no-labels : (kind : ListKind) (b : Bool) → OneOf (0 ∷ 1 ∷ 2 ∷ []) (tag_of the_type kind) → false ≡ (takes_none kind && b)
no-labels Names b k = refl
no-labels Pairs b k = refl
no-labels Rules b k = refl
no-labels Labels b k = absurd (miss (0 ∷ 1 ∷ 2 ∷ []) 3 tt k)
