-- The rounds of a table in lent areas: its terms with a merge in place of every sync of whole processes are those of a description with
-- the same sets and the same answer.
-- Assumes nothing.
use Rattle.std.specs.Prelude.{Result, Ok, Err}
use mathlib.Core.Path.{◌≡◌, refl, sym, ap, subst, ◌∙◌}
use mathlib.Core.Logic.{◌⊎◌, inl, inr}
use mathlib.Core.List.{List, [], ◌∷◌, map}
use Prim.Native.Nat.{ℕ, zero, suc, ◌+◌, ◌*◌, ◌/◌, ◌≤◌, ◌<◌, min}
use native.Mathlib.Omega.{arith}
use lib.Dec.{T}
use lib.ListN.{length, take, replicate, length-map, length-replicate}
use Rattle.meaning.specs.Labels.{Label}
use Rattle.meaning.specs.Sets.{at}
use Rattle.meaning.specs.Descriptions as D
use Rattle.meaning.specs.Legal.{Legal}
use Rattle.meaning.specs.Rounds.{round_sets}
use Rattle.meaning.specs.Limits.{total}
use Rattle.areas.specs.Rows.{held}
use Rattle.areas.proofs.Held.{length-held}
use Rattle.table.specs.Encoded.{slot_of}
use Rattle.table.specs.Holding.{bodies_in, slots_in, Holds}
use Rattle.table.proofs.Holdings.{bodies-held, slots-held}
use Rattle.syncs.specs.Merging.{merged_to}
use Rattle.syncs.specs.Merges.{with_merges}
use Rattle.syncs.proofs.MergedSets.{merged-count, merged-legal, merged-join, merged-rounds, merged-answer, merged-lists}
use Rattle.syncs.proofs.MergedSlots.{merged-slots}
use Rattle.layout.proofs.Stands.{standing-within}
use Rattle.deltas.specs.Deltas.{over_in}
use Rattle.deltas.proofs.Passing.{few-together}
use Rattle.advances.specs.Advances.{Midway}
use Rattle.advances.proofs.Keepings.{kept_self}
use Rattle.sets.specs.declared.TooLarge.{TooLarge}
use Rattle.stability.specs.Stages.{LastEnds, LastMade}
use Rattle.stability.specs.Running.{Ready, RunEnds, Ran}
use Rattle.stability.proofs.Starting.{midway_start}

-- Rows that were made for it, by their sizes, and areas that are long enough.
abbrev zeros : ℕ → List ℕ
zeros n = replicate n 0

clear-row : (n : ℕ) → zeros n ≡ zeros (length (zeros n))
clear-row n = ap zeros (sym (length-replicate {A = ℕ} n 0))

pub ready-zeros : (terms rows places : ℕ) (slots work log out : List ℕ) → terms ≤ length slots → 2 * terms + 2 ≤ rows → 224 ≤ places → length log ≤ 2048
    → 2 * length log ≤ length work → min 1024 (length log) ≤ length out → Ready terms slots (replicate rows 0) (replicate places 0) work log out
ready-zeros terms rows places slots work log out a b c e f g =
    record {
      slotted = a;
      clear = clear-row rows;
      rows = rw (length-replicate {A = ℕ} rows 0) b;
      news_clear = clear-row places;
      news_rows = rw (length-replicate {A = ℕ} places 0) c;
      most = e;
      halves = omega arith;
      room = g;
    }

-- how many labels as many words of zeros hold
pub length-zeros : (n : ℕ) → length (held (replicate n 0)) ≡ n / 2
length-zeros n = length-held (replicate n 0) ∙ ap (λ (m : ℕ). m / 2) (length-replicate {A = ℕ} n 0)

-- no set has more labels than all together
one_of_all : (sets : List (List Label)) (t : ℕ) → length (at sets t) ≤ total sets
unfolding total
one_of_all [] t = omega arith
one_of_all (s ∷ sets) zero = omega arith
one_of_all (s ∷ sets) (suc t) = let h = one_of_all sets t in omega arith

-- The order does not matter to the rounds.
legal-all : (d : D.Description) (o : D.Order) → Legal d o → Legal d D.all
legal-all d o l = record {
  name_count = l.name_count;
  equation_count = l.equation_count;
  terms_count = l.terms_count;
  terms = l.terms;
  bodies = l.bodies;
  root = l.root;
  order = tt;
}

module _ (d : D.Description) (o : D.Order) (legal : Legal d o) where
  abbrev d' : D.Description
  d' = with_merges d

  ends-merged : (sets work : List ℕ) (most : ℕ) (r : Result ℕ TooLarge) → LastEnds d' sets work most r → RunEnds d sets work most r
  ends-merged sets work most (Err f) (inl e) = inl (sym (merged-answer d o legal D.all) ∙ e)
  ends-merged sets work most (Err f) (inr x) = inr (record {
    round = x.round;
    passed = subst (λ (s : List (List Label)). T (over_in most s)) (merged-rounds d o legal x.round) x.passed;
  })
  ends-merged sets work most (Ok k) x =
      let there = (merged-legal d o legal).root in
      let sets-few = few-together most (round_sets d' k) x.few in
      record {
        labels = at (round_sets d' k) d.root;
        outcome = sym (merged-answer d o legal D.all) ∙ x.outcome;
        words = x.stands.here d.root there;
        upright = x.stands.upright d.root there;
        within = standing-within x.stands d.root there;
        few = let one = one_of_all (round_sets d' k) d.root in omega arith;
      }

  begins : {slots sets news work log out : List ℕ} → Ready (D.term_count d) slots sets news work log out → Midway d' 0 0 sets news work log out 0
  begins {slots} {sets} {news} {work} {log} {out} a =
      let rows : 2 * D.term_count d' + 2 ≤ length sets = rw (merged-count d) a.rows in
      let start = midway_start d' (length sets) (length news) work log out (legal-all d' o (merged-legal d o legal)) (merged-join d o legal) rows
      a.news_rows a.halves a.room in
      subst (λ (s : List ℕ). Midway d' 0 0 s news work log out 0) (sym a.clear)
      (subst (λ (n : List ℕ). Midway d' 0 0 (replicate (length sets) 0) n work log out 0) (sym a.news_clear) start)

  -- the slots of the table, gone through
  slots-merged : {table lists : List ℕ} → Holds d table lists → merged_to (length (slots_in table)) (slots_in table) ≡ map slot_of d'.terms
  slots-merged h =
      let e = slots-held h legal.terms_count.1 in
      ap (λ (ws : List ℕ). merged_to (length ws) ws) e
      ∙ ap (λ (n : ℕ). merged_to n (map slot_of d.terms)) (length-map d.terms slot_of) ∙ merged-slots d o legal

module _ {table lists slots sets news work log out : List ℕ} where
  pub ran-unready : (length slots < length (slots_in table)) ⊎ (2048 < length log)
      → Ran table lists slots sets news work log out slots sets news work log out (Err (record {}))
  ran-unready short = record {
    kept = kept_self sets news work log out;
    slots_long = refl;
    short = λ x. refl;
    right = λ d o l h a.
        let count = ap length (slots-held h l.terms_count.1) ∙ length-map d.terms slot_of in
        let slotted = a.slotted in
        let most = a.most in
        absurd (elim short [ inl s ↦ omega arith | inr s ↦ omega arith ]);
  }

  pub ran-turned : {slots' sets' news' work' log' out' : List ℕ} {r : Result ℕ TooLarge} → length (slots_in table) ≤ length slots → length slots' ≡ length slots
      → take (length (slots_in table)) slots' ≡ merged_to (length (slots_in table)) (slots_in table)
      → LastMade (take (length (slots_in table)) slots') lists (bodies_in table) sets news work log out sets' news' work' log' out' r
      → Ran table lists slots sets news work log out slots' sets' news' work' log' out' r
  ran-turned {sets' = sets'} {work' = work'} {r = r} room long merged made = record {
    kept = made.kept;
    slots_long = long;
    short = λ x. absurd (omega arith);
    right = λ d o l h a.
        ends-merged d o l sets' work' (length log) r
        (made.right (with_merges d) (merged ∙ slots-merged d o l h) (merged-lists d lists h.listed) (bodies-held h l.equation_count) (begins d o l a));
  }
