-- The slots of a legal description, gone through, are those of the description in which every sync of whole processes is a merge.
-- Assumes nothing.
use mathlib.Core.Path.{◌≡◌, refl, sym, ap, ap₂, ◌∙◌}
use mathlib.Core.Bool.{Bool, true, false, ◌&&◌}
use mathlib.Core.List.{List, map}
use Prim.Native.Nat.{ℕ, zero, suc, ◌≤◌, ◌<◌}
use native.Mathlib.Nat.{not-suc-le-zero, le_refl}
use native.Mathlib.Decide.{ℕ_discrete}
use native.Mathlib.Omega.{arith}
use lib.ListN.{length, get_or, length-set, length-map}
use lib.Seq.{get_or-set_same, get_or-set_other, ext_get_or}
use Rattle.meaning.specs.Descriptions as D
use Rattle.meaning.specs.Descriptions.{Description, Order}
use Rattle.meaning.specs.Legal.{LegalTerm, Legal}
use Rattle.meaning.specs.Rounds.{is_multi_action, are_multi_actions}
use Rattle.meaning.proofs.Least.{term-legal}
use Rattle.slots.specs.Packing.{word_term}
use Rattle.table.specs.Encoded.{term_for, slot_of}
use Rattle.table.proofs.PackedTerms.{term-back}
use Rattle.table.proofs.Holdings.{slot-of}
use Rattle.syncs.specs.Merging.{multi_kind, multi_at, merge_of, merge_in, merged_to}
use Rattle.syncs.specs.Merges.{sync_or, as_merge, with_merges}
use Rattle.syncs.proofs.MergedSets.{multi_term, merged-at, merged-count, merged-legal, multi-by-kind}

pub length_merged : (n : ℕ) (slots : List ℕ) → length (merged_to n slots) ≡ length slots
unfolding merged_to
length_merged zero slots = refl
length_merged (suc n) slots =
    let done = merged_to n slots in length-set done n (merge_in done (get_or done n 0)) ∙ length_merged n slots

-- A term's kind, as the code has it and as the description has it.
kind-for : (x : D.Term) → multi_kind (term_for 0 x) ≡ multi_term x
kind-for (D.act a) = refl
kind-for D.tau = refl
kind-for D.delta = refl
kind-for (D.ref e) = refl
kind-for (D.sum t) = refl
kind-for (D.cond t) = refl
kind-for (D.choice t u) = refl
kind-for (D.ifelse t u) = refl
kind-for (D.seq t u) = refl
kind-for (D.merge t u) = refl
kind-for (D.lmerge t u) = refl
kind-for (D.sync t u) = refl
kind-for (D.wrap o t) = refl

module _ (d : Description) (o : Order) (legal : Legal d o) where
  abbrev d' : Description
  d' = with_merges d

  -- the word of a line, and that its term comes back from it
  abbrev word : Description → ℕ → ℕ
  word e n = slot_of (D.term_at e n)

  back : (e : Description) → Legal e o → (n : ℕ) → n < 96 → word_term 0 (word e n) ≡ term_for 0 (D.term_at e n)
  back e l n h = term-back e l.name_count.1 l.equation_count n h 0 (D.term_at e n) (term-legal e o l n)

  -- The slots before line n are those of the second description by then.
  module _ (n : ℕ) (few : n < 96) (slots : List ℕ) (before : (i : ℕ) → i < n → get_or slots i 0 ≡ word d' i) where
    multi-slot : (t : ℕ) → t < n → multi_at slots t ≡ is_multi_action d t
    multi-slot t h =
        ap multi_kind (ap (word_term 0) (before t h) ∙ back d' (merged-legal d o legal) t (omega arith))
        ∙ kind-for (D.term_at d' t)
        ∙ sym (multi-by-kind d o legal t)

    sync-word : (t u : ℕ) (b : Bool) → multi_at slots t && multi_at slots u ≡ b
        → merge_of slots (slot_of (D.sync t u)) (term_for 0 (D.sync t u)) ≡ slot_of (sync_or b t u)
    sync-word t u true e = rw e
    sync-word t u false e = rw e

    line_word : (x : D.Term) → LegalTerm d n x → merge_of slots (slot_of x) (term_for 0 x) ≡ slot_of (as_merge d x)
    line_word (D.act a) l = refl
    line_word D.tau l = refl
    line_word D.delta l = refl
    line_word (D.ref e) l = refl
    line_word (D.sum t) l = refl
    line_word (D.cond t) l = refl
    line_word (D.choice t u) l = refl
    line_word (D.ifelse t u) l = refl
    line_word (D.seq t u) l = refl
    line_word (D.merge t u) l = refl
    line_word (D.lmerge t u) l = refl
    line_word (D.sync t u) l = sync-word t u (are_multi_actions d t u) (ap₂ {C = Bool} ◌&&◌ (multi-slot t l.0) (multi-slot u l.1))
    line_word (D.wrap p t) l = refl

    line-merged : (w : ℕ) → w ≡ word d n → merge_in slots w ≡ word d' n
    line-merged w e =
        rw e
        (ap (merge_of slots (word d n)) (back d legal n few)
        ∙ line_word (D.term_at d n) (term-legal d o legal n)
        ∙ sym (ap slot_of (merged-at d n)))

  -- So it goes through: the lines before n by then, and the others as they were.
  abbrev slots₀ : List ℕ
  slots₀ = map slot_of d.terms

  record SoFar (n : ℕ) : Type 0 where
    done : (i : ℕ) → i < n → get_or (merged_to n slots₀) i 0 ≡ word d' i
    left : (i : ℕ) → n ≤ i → get_or (merged_to n slots₀) i 0 ≡ word d i

  so_far : (n : ℕ) → n ≤ D.term_count d → SoFar n
  unfolding merged_to
  so_far zero h = record { done = λ i l. absurd (not-suc-le-zero l); left = λ i l. slot-of d i }
  so_far (suc n) h =
      let s = so_far n (omega arith) in
      let few = legal.terms_count.1 in
      let slots = merged_to n slots₀ in
      let w = merge_in slots (get_or slots n 0) in
      let room : n < length slots = omega (arith, length_merged n slots₀, length-map d.terms slot_of) in
      record {
        done = λ i l. elim (ℕ_discrete i n) [
          | yes e ↦ rw e (get_or-set_same slots n w 0 room ∙ line-merged n (omega arith) slots s.done (get_or slots n 0) (s.left n (le_refl n)))
          | no k ↦ get_or-set_other slots n i w 0 k ∙ s.done i (omega arith)
        ];
        left = λ i l. get_or-set_other slots n i w 0 (λ e. absurd (omega arith)) ∙ s.left i (omega arith);
      }

  pub merged-slots : merged_to (D.term_count d) slots₀ ≡ map slot_of d'.terms
  merged-slots =
      let n = D.term_count d in
      let all = so_far n (le_refl n) in
      let long = length_merged n slots₀ ∙ length-map d.terms slot_of in
      ext_get_or 0 (merged_to n slots₀) (map slot_of d'.terms) (long ∙ sym (length-map d'.terms slot_of ∙ merged-count d))
      (λ i l. all.done i (omega (arith, long)) ∙ sym (slot-of d' i))
