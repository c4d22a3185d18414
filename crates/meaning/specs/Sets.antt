-- Sets of labels, as lists (docs/FORMAT.md, "The terms").
-- What is put together from sets is a list; `ascending` puts it in order, each label once.
-- Assumes nothing.
use Rattle.std.specs.Prelude.{◌≡◌, ◌⊎◌, Bool, true, false, ◌||◌, List, [], ◌∷◌, ◌++◌, map, get_or}
use Prim.Native.Nat.{ℕ, ◌<◌, Ordering}
use Rattle.std.proofs.Math.Dec.{compare_is_eq}
use Rattle.meaning.specs.Labels.{Label, order, plus}

infix 40 ◌∈◌
abbrev pub ◌∈◌ : {A : Type 0} → A → List A → Type 0
a ∈ [] = ⊥
a ∈ (b ∷ s) = (a ≡ b) ⊎ (a ∈ s)

-- the set at a place of a list of sets; past the end it is empty
abbrev pub at : List (List Label) → ℕ → List Label
at sets n = get_or sets n []

unfoldable pub member : Label → List Label → Bool
member a [] = false
member a (b ∷ s) = compare_is_eq (order a b) || member a s

-- Strictly ascending numbers.
abbrev pub Above : ℕ → List ℕ → Type 0
Above x [] = Unit {0}
Above x (y ∷ ys) = x < y

abbrev pub Rising : List ℕ → Type 0
Rising [] = Unit {0}
Rising (x ∷ xs) = Above x xs × Rising xs

-- A list in ascending order, each label once.
abbrev pub placed : Ordering → Label → Label → List Label → List Label → List Label
placed Ordering.lt a b s more = a ∷ b ∷ s
placed Ordering.eq a b s more = b ∷ s
placed Ordering.gt a b s more = b ∷ more

unfoldable pub insert : Label → List Label → List Label
insert a [] = a ∷ []
insert a (b ∷ s) = placed (order a b) a b s (insert a s)

unfoldable pub ascending : List Label → List Label
ascending [] = []
ascending (a ∷ s) = insert a (ascending s)

-- Each label gives a list of labels: a filter keeps it or not, a map turns it into one other.
unfoldable pub spread : (Label → List Label) → List Label → List Label
spread f [] = []
spread f (a ∷ s) = f a ++ spread f s

abbrev pub kept : Bool → Label → List Label
kept true a = a ∷ []
kept false a = []

abbrev pub keep : (Label → Bool) → Label → List Label
keep test a = kept (test a) a

abbrev pub turn : (Label → Label) → Label → List Label
turn f a = f a ∷ []

-- AB: every sum of a label of A and a label of B.
unfoldable pub product : List Label → List Label → List Label
product s t = spread (λ a. map (plus a) t) s
