-- The words of a description's names, terms and lists.
-- Assumes nothing.
use Rattle.std.specs.Prelude.{List, [], ◌∷◌, map, ℕ, zero, suc, ◌+◌, ◌*◌, length}
use Rattle.slots.specs.declared.Place.{Place}
use Rattle.slots.specs.declared.Operator.{Operator}
use Rattle.slots.specs.declared.Operator.TheVariants.{Block, Hide, Rename, Comm, Allow}
use Rattle.slots.specs.declared.Term.{Term}
use Rattle.slots.specs.declared.Term.TheVariants.{Delta, Tau, Act, Ref, Sum, Cond, Choice, IfElse, Seq, Merge, LMerge, Sync, Wrap}
use Rattle.table.specs.declared.Order.{Order}
use Rattle.table.specs.declared.Order.TheVariants.{All, Only}
use Rattle.slots.specs.Packing.{term_word}
use Rattle.meaning.specs.Bytes.{Text}
use Rattle.meaning.specs.Labels.{number, lower_word, upper_word, in_words}
use Rattle.meaning.specs.Descriptions as D
pub use Rattle.areas.specs.Pairs.{pair_word}

-- the first so many of a list, with a filler where it has fewer
unfoldable pub filled : {A : Type 0} → ℕ → A → List A → List A
filled zero x xs = []
filled (suc n) x [] = x ∷ filled n x []
filled (suc n) x (y ∷ ys) = y ∷ filled n x ys

unfoldable pub word_of : Text → ℕ
word_of [] = 0
word_of (b ∷ s) = b + 256 * word_of s

unfoldable pub rule_words : List D.Rule → List ℕ
rule_words [] = []
rule_words (r ∷ rs) = lower_word (number r.left) ∷ upper_word (number r.left) ∷ r.right ∷ rule_words rs

-- The words of a term's list.
abbrev pub operator_words : D.Operator → List ℕ
operator_words (D.block ns) = ns
operator_words (D.hide ns) = ns
operator_words (D.rename ps) = map pair_word ps
operator_words (D.comm rs) = rule_words rs
operator_words (D.allow ls) = in_words (map number ls)

abbrev pub term_words : D.Term → List ℕ
term_words (D.act n) = []
term_words D.tau = []
term_words D.delta = []
term_words (D.ref e) = []
term_words (D.sum t) = []
term_words (D.cond t) = []
term_words (D.choice t u) = []
term_words (D.ifelse t u) = []
term_words (D.seq t u) = []
term_words (D.merge t u) = []
term_words (D.lmerge t u) = []
term_words (D.sync t u) = []
term_words (D.wrap o t) = operator_words o

abbrev pub order_words : D.Order → List ℕ
order_words D.all = []
order_words (D.only ls) = in_words (map number ls)

-- A term as the code looks at it, by its number: its list is the one of that number.
abbrev pub list_place : {A : Type 0} → ℕ → List A → Place
list_place n xs = record { at = n; entries = length xs }

abbrev pub operator_for : ℕ → D.Operator → Operator
operator_for n (D.block ns) = Block (list_place n ns)
operator_for n (D.hide ns) = Hide (list_place n ns)
operator_for n (D.rename ps) = Rename (list_place n ps)
operator_for n (D.comm rs) = Comm (list_place n rs)
operator_for n (D.allow ls) = Allow (list_place n ls)

abbrev pub term_for : ℕ → D.Term → Term
term_for n (D.act a) = Act a
term_for n D.tau = Tau
term_for n D.delta = Delta
term_for n (D.ref e) = Ref e
term_for n (D.sum t) = Sum t
term_for n (D.cond t) = Cond t
term_for n (D.choice t u) = Choice t u
term_for n (D.ifelse t u) = IfElse t u
term_for n (D.seq t u) = Seq t u
term_for n (D.merge t u) = Merge t u
term_for n (D.lmerge t u) = LMerge t u
term_for n (D.sync t u) = Sync t u
term_for n (D.wrap o t) = Wrap (operator_for n o) t

-- its word, in which its number is not
abbrev pub slot_of : D.Term → ℕ
slot_of t = term_word (term_for 0 t)

-- The order, whose list is the first of its own words.
abbrev pub order_for : D.Order → Order
order_for D.all = All
order_for (D.only ls) = Only (list_place 0 ls)
