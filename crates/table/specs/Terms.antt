-- A term of the code whose operands are all that it has, as a term of a description.
-- Assumes nothing.
use Rattle.std.specs.Prelude.{[]}
use Rattle.slots.specs.declared.Term.{Term}
use Rattle.slots.specs.declared.Term.TheVariants.{Delta, Tau, Act, Ref, Sum, Cond, Choice, IfElse, Seq, Merge, LMerge, Sync, Wrap}
use Rattle.table.specs.Decoded.{term_of}
use Rattle.meaning.specs.Descriptions as D

-- without its list, which an operator has beside it
abbrev pub bare_term : Term → D.Term
bare_term x = term_of 0 [] x

abbrev pub IsPlain : Term → Type 0
IsPlain Delta = Unit {0}
IsPlain Tau = Unit {0}
IsPlain (Act n) = Unit {0}
IsPlain (Ref e) = Unit {0}
IsPlain (Sum t) = Unit {0}
IsPlain (Cond t) = Unit {0}
IsPlain (Choice t u) = Unit {0}
IsPlain (IfElse t u) = Unit {0}
IsPlain (Seq t u) = Unit {0}
IsPlain (Merge t u) = Unit {0}
IsPlain (LMerge t u) = Unit {0}
IsPlain (Sync t u) = Unit {0}
IsPlain (Wrap o t) = ⊥
