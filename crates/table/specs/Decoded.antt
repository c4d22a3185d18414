-- What the words of a table and its lists say.
-- Assumes nothing.
use Rattle.std.specs.Prelude.{List, [], ◌∷◌, map, true, false, ℕ, zero, suc, ◌+◌, ◌*◌, ◌/◌, ◌%◌, ◌^◌, eqb, take, drop}
use Rattle.slots.specs.declared.Place.{Place}
use Rattle.slots.specs.declared.Operator.{Operator}
use Rattle.slots.specs.declared.Operator.TheVariants.{Block, Hide, Rename, Comm, Allow}
use Rattle.slots.specs.declared.Term.{Term}
use Rattle.slots.specs.declared.Term.TheVariants.{Delta, Tau, Act, Ref, Sum, Cond, Choice, IfElse, Seq, Merge, LMerge, Sync, Wrap}
use Rattle.meaning.specs.Bytes.{Text}
use Rattle.meaning.specs.Labels.{lower_word, label_of}
use Rattle.meaning.specs.Descriptions as D
use Rattle.areas.specs.Pairs.{pairs_in}
use Rattle.areas.specs.Rows.{held}

-- A name's bytes, the first in the lowest eight bits of its word; a byte 0 ends it.
unfoldable pub name_of : ℕ → ℕ → Text
name_of zero w = []
name_of (suc more) w = elim (eqb w 0) [ true ↦ [] | false ↦ w % 256 ∷ name_of more (w / 256) ]

-- Lists, 64 words for each term: a name is one word and a label two, the lower first; the pair a>b is the word a + 32 b; a rule is three
-- words, the left label first.
abbrev pub words_at : List ℕ → Place → ℕ → List ℕ
words_at lists p size = take (p.entries * size) (drop (64 * p.at) lists)

-- the words of an operator's list
abbrev pub list_in : List ℕ → Operator → List ℕ
list_in lists (Block p) = words_at lists p 1
list_in lists (Hide p) = words_at lists p 1
list_in lists (Rename p) = words_at lists p 1
list_in lists (Comm p) = words_at lists p 3
list_in lists (Allow p) = words_at lists p 2

unfoldable pub rules_of : ℕ → List ℕ → List D.Rule
rules_of names [] = []
rules_of names (lower ∷ []) = []
rules_of names (lower ∷ upper ∷ []) = []
rules_of names (lower ∷ upper ∷ b ∷ ws) = record { left = label_of names (lower_word lower + 2 ^ 60 * upper); right = b } ∷ rules_of names ws

abbrev pub operator_of : ℕ → List ℕ → Operator → D.Operator
operator_of names lists (Block p) = D.block (words_at lists p 1)
operator_of names lists (Hide p) = D.hide (words_at lists p 1)
operator_of names lists (Rename p) = D.rename (pairs_in (words_at lists p 1))
operator_of names lists (Comm p) = D.comm (rules_of names (words_at lists p 3))
operator_of names lists (Allow p) = D.allow (map (label_of names) (held (words_at lists p 2)))

abbrev pub term_of : ℕ → List ℕ → Term → D.Term
term_of names lists Delta = D.delta
term_of names lists Tau = D.tau
term_of names lists (Act n) = D.act n
term_of names lists (Ref e) = D.ref e
term_of names lists (Sum t) = D.sum t
term_of names lists (Cond t) = D.cond t
term_of names lists (Choice t u) = D.choice t u
term_of names lists (IfElse t u) = D.ifelse t u
term_of names lists (Seq t u) = D.seq t u
term_of names lists (Merge t u) = D.merge t u
term_of names lists (LMerge t u) = D.lmerge t u
term_of names lists (Sync t u) = D.sync t u
term_of names lists (Wrap o t) = D.wrap (operator_of names lists o) t
