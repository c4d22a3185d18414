-- The shapes of terms: what the set of each kind is built of, and how.
-- Assumes nothing.
use Rattle.std.specs.Prelude.{true, false}
use Rattle.meaning.specs.Labels.{number, single}
use Rattle.labels.specs.Packing.{packed}
use Rattle.slots.specs.declared.Term.{Term}
use Rattle.slots.specs.declared.Term.TheVariants.{Delta, Tau, Act, Ref, Sum, Cond, Choice, IfElse, Seq, Merge, LMerge, Sync, Wrap}
use Rattle.shapes.specs.declared.Shape.{Shape}
use Rattle.shapes.specs.declared.Shape.TheVariants.{Empty, Leaf, Body, One, Two, Joint, Through}

abbrev pub shape_for : Term → Shape
shape_for Delta = Empty
shape_for Tau = Leaf (packed 0)
shape_for (Act a) = Leaf (packed (number (single 24 a)))
shape_for (Ref e) = Body e
shape_for (Sum t) = One t
shape_for (Cond t) = One t
shape_for (Choice t u) = Two t u false
shape_for (IfElse t u) = Two t u false
shape_for (Seq t u) = Two t u false
shape_for (Merge t u) = Two t u true
shape_for (LMerge t u) = Two t u true
shape_for (Sync t u) = Joint t u
shape_for (Wrap o t) = Through o t
