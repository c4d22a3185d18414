-- What the rounds of a table come to in areas that are always enough: what is found, and every word of the work area; and that this
-- settles both.
-- Assumes nothing.
use Rattle.std.specs.Prelude.{Result, Ok, Err}
use mathlib.Core.Path.{◌≡◌, refl, sym, ap, subst, ◌∙◌}
use mathlib.Core.Logic.{inl, inr}
use mathlib.Core.List.{List, [], ◌++◌, map}
use Prim.Native.Nat.{ℕ, ◌-◌, ◌≤◌, ◌<◌}
use native.Mathlib.Nat.{min-eq_left}
use native.Mathlib.Omega.{arith}
use native.Mathlib.Decide.{dec_lt}
use lib.Dec.{T}
use lib.ListN.{length, take, drop, replicate, length-map, length-take, length-replicate, length-append}
use lib.Seq.{take_all, take_at, drop_at}
use Rattle.meaning.specs.Labels.{number, in_words}
use Rattle.meaning.specs.Descriptions as D
use Rattle.meaning.specs.Legal.{Legal}
use Rattle.meaning.specs.Rounds.{round_sets}
use Rattle.meaning.specs.Answers.{Outcome, too_large, answer}
use Rattle.meaning.proofs.Alike.{alike}
use Rattle.meaning.proofs.Outcomes.{passed-answer}
use Rattle.areas.specs.Areas.{zeroed}
use Rattle.areas.specs.Rows.{held}
use Rattle.areas.proofs.Held.{length-held, held-take}
use Rattle.areas.proofs.Zeroes.{zeroed-front}
use Rattle.table.specs.Holding.{root_in, Holds}
use Rattle.keeping.specs.Settling.{whole, whole_labels, alone}
use Rattle.extents.specs.Extents.{part_at, words_in}
use Rattle.extents.proofs.Rows.{words-grown, words-length}
use Rattle.deltas.proofs.Passing.{over-in}
use Rattle.stability.specs.declared.Found.{Found}
use Rattle.sets.specs.declared.TooLarge.{TooLarge}
use Rattle.stability.specs.Stages.{Passing}
use Rattle.stability.specs.Running.{RootListed, RunEnds, Ran}
use Rattle.stability.specs.Settling.{Concluded}
use Rattle.stability.specs.Endings.{found_at, found_of, labels_of, Reached}
use Rattle.stability.proofs.Runs.{ready-zeros, length-zeros}

-- What is found is right, and every word that is left.
abbrev Answered : D.Description → (work work' : List ℕ) → Result Found TooLarge → Type 0
Answered d work work' r = (r ≡ found_of (answer d D.all)) × (work' ≡ alone (in_words (map number (labels_of (answer d D.all)))) work)

-- A log of 2,048 labels has room for as many labels as there may be.
pub passing-large : {d : D.Description} → Passing d 2048 → answer d D.all ≡ too_large
passing-large {d} x = passed-answer d D.all x.round (subst T (over-in (round_sets d x.round)) x.passed)

-- The rounds were run in the words that are used, and what is behind them is as before.
abbrev after : (work part : List ℕ) → List ℕ
after work part = part ++ drop whole work

-- of the words before, only those behind the ones that are used matter
behind : (work part labels : List ℕ) → length part ≡ whole → alone labels (after work part) ≡ alone labels work
behind work part labels used =
    ap (λ (rest : List ℕ). labels ++ (replicate (whole - length labels) 0 ++ rest)) (drop_at part (drop whole work) whole used)

module _ (d : D.Description) (work part : List ℕ) (used : length part ≡ whole) {work' : List ℕ} {r : Result Found TooLarge} where
  answered-large : answer d D.all ≡ too_large → (r ≡ Err (record {})) × (work' ≡ zeroed whole (after work part)) → Answered d work work' r
  unfolding in_words
  answered-large outcome left =
      let room : whole ≤ length (after work part) = omega (arith, length-append part (drop whole work)) in (
        left.0 ∙ sym (ap found_of outcome),
        left.1 ∙ zeroed-front whole (after work part) room
            ∙ sym (ap (λ (y : Outcome). alone (in_words (map number (labels_of y))) work) outcome ∙ sym (behind work part (in_words []) used)),
      )

  answered-stable : {sets : List ℕ} {k most : ℕ} → RootListed d k sets (held part) most
      → Concluded (Ok k) (part_at sets d.root) (after work part) work' r → Answered d work work' r
  answered-stable {sets} {k} x left =
      let p = part_at sets d.root in
      let same : take whole part ≡ take whole (after work part) = take_all whole part (omega arith) ∙ sym (take_at part (drop whole work) whole used) in
      let first : take whole_labels (held part) ≡ take whole_labels (held (after work part)) =
      sym (held-take whole_labels part) ∙ ap held same ∙ held-take whole_labels (after work part) in
      let end : p.to ≤ whole_labels = omega (arith, x.within, length-held part) in
      let stands : words_in p (held (after work part)) ≡ map number x.labels =
      words-grown {n = whole_labels} p (held part) (held (after work part)) first end ∙ x.words in
      let size : p.to - p.from ≡ length x.labels =
      omega (arith, words-length p (held part), ap length x.words, length-map x.labels number, x.within) in
      let settled = left end in (
        settled.0 ∙ ap (found_at k) size ∙ sym (ap found_of x.outcome),
        settled.1 ∙ ap (λ (v : List ℕ). alone (in_words v) (after work part)) stands ∙ behind work part (in_words (map number x.labels)) used
            ∙ sym (ap (λ (y : Outcome). alone (in_words (map number (labels_of y))) work) x.outcome),
      )

  answered-ends : (sets : List ℕ) (last : Result ℕ TooLarge) → RunEnds d sets (held part) 2048 last
      → Concluded last (part_at sets d.root) (after work part) work' r
      → Answered d work work' r
  answered-ends sets (Err f) (inl e) left = answered-large e left
  answered-ends sets (Err f) (inr x) left = answered-large (passing-large x) left
  answered-ends sets (Ok k) x left = answered-stable x left

module _ {table lists work : List ℕ} where
  pub reached-short : length work < whole → Reached table lists work work (Err (record {}))
  reached-short h = record { short = λ x. (refl, refl); right = λ d o l e room. absurd (omega arith) }

  pub reached-run : {slots sets news log out work' : List ℕ} {last : Result ℕ TooLarge} {root : ℕ} {r : Result Found TooLarge} (part : List ℕ)
      → whole ≤ length work
      → Ran table lists (replicate 96 0) (replicate 194 0) (replicate 224 0) (held (take whole work)) (held (replicate 4096 0)) (held (replicate 2048 0))
      slots sets news (held part) log out last → length part ≡ length (take whole work) → root ≡ root_in table
      → Concluded last (part_at sets root) (part ++ drop whole work) work' r
      → Reached table lists work work' r
  reached-run {sets = sets} {work' = work'} {last = last} {root = root} {r = r} part room run long e left =
      let taken : length (take whole work) ≡ whole = length-take whole work ∙ min-eq_left room in
      record {
        short = λ x. absurd (omega arith);
        right = λ d o l h b.
            let few = l.terms_count.1 in
            let slots-long = length-replicate {A = ℕ} 96 0 in
            let log-long = length-zeros 4096 in
            let out-long = length-zeros 2048 in
            let work-long = length-held (take whole work) in
            let ready = ready-zeros (D.term_count d) 194 224 (replicate 96 0) (held (take whole work)) (held (replicate 4096 0)) (held (replicate 2048 0))
            (omega arith) (omega arith) (omega arith) (omega arith) (omega arith) (omega arith) in
            let ends = subst (λ (most : ℕ). RunEnds d sets (held part) most last) log-long (run.right d o l h ready) in
            answered-ends d work part (long ∙ taken) sets last ends
            (subst (λ (n : ℕ). Concluded last (part_at sets n) (part ++ drop whole work) work' r) (e ∙ h.rooted) left);
      }

-- What is promised settles what is found and every word of the work area.
pub reached-unique : {table lists work work₁ work₂ : List ℕ} {r₁ r₂ : Result Found TooLarge}
    → Reached table lists work work₁ r₁
    → Reached table lists work work₂ r₂
    → (d : D.Description) (o : D.Order)
    → Legal d o
    → Holds d table lists
    → (r₁ ≡ r₂) × (work₁ ≡ work₂)
reached-unique {work = work} p q d o l e = elim (dec_lt (length work) whole) [
  | yes h ↦ (alike (p.short h).0 (q.short h).0, alike (p.short h).1 (q.short h).1)
  | no h ↦
      let a = p.right d o l e (omega arith) in
      let b = q.right d o l e (omega arith) in
      (alike a.0 b.0, alike a.1 b.1)
]
