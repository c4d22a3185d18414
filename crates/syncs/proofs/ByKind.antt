-- The kinds of terms against the tags by which the code tells them apart.
-- Assumes nothing.
use mathlib.Core.Path.{◌≡◌, refl}
use mathlib.Core.Bool.{true, false}
use mathlib.Core.List.{List, [], ◌∷◌}
use Prim.Native.Nat.{ℕ}
use types.Run.{OneOf, miss}
use denote.Enum.Declared.{tag_of}
use Rattle.slots.specs.declared.Term.{Term}
use Rattle.slots.specs.declared.Term.TheVariants.{Delta, Tau, Act, Ref, Sum, Cond, Choice, IfElse, Seq, Merge, LMerge, Sync, Wrap}
use Rattle.slots.specs.contracts.Term.{the_type}
use Rattle.syncs.specs.Merging.{multi_kind, merge_of}

abbrev multis : List ℕ
multis = 0 ∷ 1 ∷ 2 ∷ 11 ∷ []

pub is-kind : (x : Term) → OneOf multis (tag_of the_type x) → true ≡ multi_kind x
is-kind Delta k = refl
is-kind Tau k = refl
is-kind (Act a) k = refl
is-kind (Ref e) k = absurd (miss multis 3 tt k)
is-kind (Sum t) k = absurd (miss multis 4 tt k)
is-kind (Cond t) k = absurd (miss multis 5 tt k)
is-kind (Choice t u) k = absurd (miss multis 6 tt k)
is-kind (IfElse t u) k = absurd (miss multis 7 tt k)
is-kind (Seq t u) k = absurd (miss multis 8 tt k)
is-kind (Merge t u) k = absurd (miss multis 9 tt k)
is-kind (LMerge t u) k = absurd (miss multis 10 tt k)
is-kind (Sync t u) k = refl
is-kind (Wrap o t) k = absurd (miss multis 12 tt k)

abbrev others : List ℕ
others = 3 ∷ 4 ∷ 5 ∷ 6 ∷ 7 ∷ 8 ∷ 9 ∷ 10 ∷ 12 ∷ []

pub no_kind : (x : Term) → OneOf others (tag_of the_type x) → false ≡ multi_kind x
no_kind Delta k = absurd (miss others 0 tt k)
no_kind Tau k = absurd (miss others 1 tt k)
no_kind (Act a) k = absurd (miss others 2 tt k)
no_kind (Ref e) k = refl
no_kind (Sum t) k = refl
no_kind (Cond t) k = refl
no_kind (Choice t u) k = refl
no_kind (IfElse t u) k = refl
no_kind (Seq t u) k = refl
no_kind (Merge t u) k = refl
no_kind (LMerge t u) k = refl
no_kind (Sync t u) k = absurd (miss others 11 tt k)
no_kind (Wrap o t) k = refl

-- Any other term than a sync stays.
abbrev no_sync : List ℕ
no_sync = 0 ∷ 1 ∷ 2 ∷ 3 ∷ 4 ∷ 5 ∷ 6 ∷ 7 ∷ 8 ∷ 9 ∷ 10 ∷ 12 ∷ []

pub stays : (slots : List ℕ) (w : ℕ) (x : Term) → OneOf no_sync (tag_of the_type x) → w ≡ merge_of slots w x
stays slots w Delta k = refl
stays slots w Tau k = refl
stays slots w (Act a) k = refl
stays slots w (Ref e) k = refl
stays slots w (Sum t) k = refl
stays slots w (Cond t) k = refl
stays slots w (Choice t u) k = refl
stays slots w (IfElse t u) k = refl
stays slots w (Seq t u) k = refl
stays slots w (Merge t u) k = refl
stays slots w (LMerge t u) k = refl
stays slots w (Sync t u) k = absurd (miss no_sync 11 tt k)
stays slots w (Wrap o t) k = refl
