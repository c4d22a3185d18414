-- A description in which every sync of whole processes is written as a merge. Its sets are those of the first in every round, and so
-- is its answer: `merged-answer` in `proofs/MergedSets.antt`.
-- Assumes nothing.
use Rattle.std.specs.Prelude.{◌≡◌, Bool, true, false, map, ℕ}
use Rattle.meaning.specs.Descriptions.{Term, act, tau, delta, ref, sum, cond, choice, ifelse, seq, merge, lmerge, sync, wrap, Description, term_at}
use Rattle.meaning.specs.Rounds.{are_multi_actions}

abbrev pub sync_or : (multi : Bool) → ℕ → ℕ → Term
sync_or true t u = sync t u
sync_or false t u = merge t u

abbrev pub as_merge : Description → Term → Term
as_merge d (sync t u) = sync_or (are_multi_actions d t u) t u
as_merge d (act a) = act a
as_merge d tau = tau
as_merge d delta = delta
as_merge d (ref e) = ref e
as_merge d (sum t) = sum t
as_merge d (cond t) = cond t
as_merge d (choice t u) = choice t u
as_merge d (ifelse t u) = ifelse t u
as_merge d (seq t u) = seq t u
as_merge d (merge t u) = merge t u
as_merge d (lmerge t u) = lmerge t u
as_merge d (wrap o t) = wrap o t

abbrev pub with_merges : Description → Description
with_merges d = record { words = d.words; terms = map (as_merge d) d.terms; bodies = d.bodies; root = d.root }

-- Every sync is one of multi-actions: there is nothing to write as a merge.
abbrev pub SyncsJoin : Description → Type 0
SyncsJoin d = (n : ℕ) → as_merge d (term_at d n) ≡ term_at d n
