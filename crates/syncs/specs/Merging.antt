-- The slots of a table in which every sync of whole processes is a merge. The walk is the definition, since a promise holds for any
-- slots; of those of a legal description they are the slots of `with_merges`: `merged-slots` in `proofs/MergedSlots.antt`.
-- Assumes nothing.
use Rattle.std.specs.Prelude.{Bool, true, false, ◌&&◌, List, ℕ, zero, suc, get_or, set}
use Rattle.meaning.specs.Rounds.{pick}
use Rattle.slots.specs.declared.Term.{Term}
use Rattle.slots.specs.declared.Term.TheVariants.{Delta, Tau, Act, Ref, Sum, Cond, Choice, IfElse, Seq, Merge, LMerge, Sync, Wrap}
use Rattle.slots.specs.Packing.{term_word, word_term}

abbrev pub multi_kind : Term → Bool
multi_kind Delta = true
multi_kind Tau = true
multi_kind (Act a) = true
multi_kind (Sync t u) = true
multi_kind (Ref e) = false
multi_kind (Sum t) = false
multi_kind (Cond t) = false
multi_kind (Choice t u) = false
multi_kind (IfElse t u) = false
multi_kind (Seq t u) = false
multi_kind (Merge t u) = false
multi_kind (LMerge t u) = false
multi_kind (Wrap o t) = false

abbrev pub multi_at : List ℕ → ℕ → Bool
multi_at slots t = multi_kind (word_term 0 (get_or slots t 0))

-- A slot beside the others, by the term that it holds.
abbrev pub merge_of : List ℕ → ℕ → Term → ℕ
merge_of slots w (Sync t u) = pick (multi_at slots t && multi_at slots u) w (term_word (Merge t u))
merge_of slots w Delta = w
merge_of slots w Tau = w
merge_of slots w (Act a) = w
merge_of slots w (Ref e) = w
merge_of slots w (Sum t) = w
merge_of slots w (Cond t) = w
merge_of slots w (Choice t u) = w
merge_of slots w (IfElse t u) = w
merge_of slots w (Seq t u) = w
merge_of slots w (Merge t u) = w
merge_of slots w (LMerge t u) = w
merge_of slots w (Wrap o t) = w

abbrev pub merge_in : List ℕ → ℕ → ℕ
merge_in slots w = merge_of slots w (word_term 0 w)

-- the first so many slots gone through
unfoldable pub merged_to : ℕ → List ℕ → List ℕ
merged_to zero slots = slots
merged_to (suc n) slots = let done = merged_to n slots in set done n (merge_in done (get_or done n 0))
