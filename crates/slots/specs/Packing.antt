-- A term packed in a word: its kind in the lowest five bits, then up to three numbers of 16 bits each.
-- Assumes nothing.
use Rattle.std.specs.Prelude.{ℕ, ◌+◌, ◌*◌, ◌/◌, ◌%◌, eqb, ltb}
use Rattle.meaning.specs.Rounds.{pick}
use Rattle.slots.specs.declared.Place.{Place}
use Rattle.slots.specs.declared.Operator.{Operator}
use Rattle.slots.specs.declared.Operator.TheVariants.{Block, Hide, Rename, Comm, Allow}
use Rattle.slots.specs.declared.Term.{Term}
use Rattle.slots.specs.declared.Term.TheVariants.{Delta, Tau, Act, Ref, Sum, Cond, Choice, IfElse, Seq, Merge, LMerge, Sync, Wrap}

-- the kind's number and the three numbers, each cut to its bits
unfoldable pub packed_term : ℕ → ℕ → ℕ → ℕ → ℕ
packed_term k t u entries = k + 32 * (t % 65536) + 2097152 * (u % 65536) + 137438953472 * (entries % 65536)

-- The word of a term. Where its list stands follows from the term's number and is not in the word.
abbrev pub operator_word : Operator → ℕ → ℕ
operator_word (Block p) u = packed_term 12 0 u p.entries
operator_word (Hide p) u = packed_term 13 0 u p.entries
operator_word (Rename p) u = packed_term 14 0 u p.entries
operator_word (Comm p) u = packed_term 15 0 u p.entries
operator_word (Allow p) u = packed_term 16 0 u p.entries

abbrev pub term_word : Term → ℕ
term_word Delta = 0
term_word Tau = 1
term_word (Act n) = packed_term 2 0 n 0
term_word (Ref e) = packed_term 3 0 e 0
term_word (Sum u) = packed_term 4 0 u 0
term_word (Cond u) = packed_term 5 0 u 0
term_word (Choice t u) = packed_term 6 t u 0
term_word (IfElse t u) = packed_term 7 t u 0
term_word (Seq t u) = packed_term 8 t u 0
term_word (Merge t u) = packed_term 9 t u 0
term_word (LMerge t u) = packed_term 10 t u 0
term_word (Sync t u) = packed_term 11 t u 0
term_word (Wrap o u) = operator_word o u

-- The term of a word: the kinds by their numbers.
abbrev pub plain_of : ℕ → ℕ → ℕ → Term
plain_of k t u =
    pick (eqb k 1) Tau (pick (eqb k 2) (Act u) (pick (eqb k 3) (Ref u) (pick (eqb k 4) (Sum u) (pick (eqb k 5) (Cond u) (pick (eqb k 6) (Choice t u)
    (pick (eqb k 7) (IfElse t u) (pick (eqb k 8) (Seq t u) (pick (eqb k 9) (Merge t u) (pick (eqb k 10) (LMerge t u) (pick (eqb k 11) (Sync t u) Delta))))))))))

abbrev pub operator_at : ℕ → Place → Operator
operator_at k p = pick (eqb k 12) (Block p) (pick (eqb k 13) (Hide p) (pick (eqb k 14) (Rename p) (pick (eqb k 15) (Comm p) (Allow p))))

-- of the n-th term, whose list is the n-th
abbrev pub kind_term : (n k t u entries : ℕ) → Term
kind_term n k t u entries = pick (ltb k 12) (plain_of k t u) (Wrap (operator_at k (record { at = n; entries = entries })) u)

unfoldable pub word_term : ℕ → ℕ → Term
word_term n w = kind_term n (w % 32) (w / 32 % 65536) (w / 2097152 % 65536) (w / 137438953472 % 65536)
