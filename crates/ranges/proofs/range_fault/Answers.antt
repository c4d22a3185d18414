-- `ranges::range_fault` meets its contract: each kind has its numbers.
-- Assumes nothing.
use mathlib.Core.Path.{◌≡◌, refl}
use mathlib.Core.List.{List, [], ◌∷◌}
use Prim.Native.Nat.{ℕ}
use types.Run.{OneOf, miss}
use denote.Enum.Declared.{tag_of}
use Rattle.slots.specs.declared.Term.{Term}
use Rattle.slots.specs.declared.Term.TheVariants.{Delta, Tau, Act, Ref, Sum, Cond, Choice, IfElse, Seq, Merge, LMerge, Sync, Wrap}
use Rattle.slots.specs.contracts.Term.{the_type}
use Rattle.table.specs.Terms.{bare_term}
use Rattle.grammar.specs.Forms.{Places}
use Rattle.grammar.specs.Faults.{fine, range_fault}
use Rattle.ranges.proofs.range_fault.Goals as goal

abbrev leaves : List ℕ
leaves = 0 ∷ 1 ∷ 2 ∷ []

leaf-fine : (e n : ℕ) (at : Places) (x : Term) → OneOf leaves (tag_of the_type x) → fine ≡ range_fault e n (bare_term x) at
leaf-fine e n at Delta k = refl
leaf-fine e n at Tau k = refl
leaf-fine e n at (Act a) k = refl
leaf-fine e n at (Ref r) k = absurd (miss leaves 3 tt k)
leaf-fine e n at (Sum t) k = absurd (miss leaves 4 tt k)
leaf-fine e n at (Cond t) k = absurd (miss leaves 5 tt k)
leaf-fine e n at (Choice t u) k = absurd (miss leaves 6 tt k)
leaf-fine e n at (IfElse t u) k = absurd (miss leaves 7 tt k)
leaf-fine e n at (Seq t u) k = absurd (miss leaves 8 tt k)
leaf-fine e n at (Merge t u) k = absurd (miss leaves 9 tt k)
leaf-fine e n at (LMerge t u) k = absurd (miss leaves 10 tt k)
leaf-fine e n at (Sync t u) k = absurd (miss leaves 11 tt k)
leaf-fine e n at (Wrap o t) k = absurd (miss leaves 12 tt k)

pub returns-in-Delta : goal.returns-in-Delta
returns-in-Delta c = let a = c.args in leaf-fine a.bounds.equations a.bounds.term _ a.x c.in-Delta.in-Delta-own.keys1

pub returns-in-Ref : goal.returns-in-Ref
returns-in-Ref c = rw c.in-Ref.is c.number_fault.ensures
