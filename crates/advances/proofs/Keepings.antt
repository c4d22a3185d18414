-- New labels are kept: one term more is done, or the sets of the round pass a limit.
-- Assumes nothing.
use Rattle.std.specs.Prelude.{Ok, Err}
use mathlib.Core.Path.{◌≡◌, refl, sym, ap, subst, ◌∙◌}
use mathlib.Core.Bool.{true}
use mathlib.Core.List.{List, [], map}
use Prim.Native.Nat.{ℕ, suc, ◌+◌, ◌≤◌, ◌<◌}
use native.Mathlib.Nat.{le_refl}
use native.Mathlib.Decide.{dec_lt}
use native.Mathlib.Omega.{arith}
use lib.Dec.{T}
use lib.ListN.{length, length-map}
use Rattle.meaning.specs.Labels.{number}
use Rattle.meaning.specs.Sets.{at}
use Rattle.meaning.specs.Descriptions as D
use Rattle.meaning.specs.Rounds.{round_sets}
use Rattle.parts.proofs.LaidSets.{laid_nil}
use Rattle.parts.specs.declared.Part.{Part}
use Rattle.extents.specs.Extents.{part_at, with_part, is_empty, words_in}
use Rattle.extents.proofs.Rows.{length-with_part, words-empty}
use Rattle.logs.specs.Logs.{less_of, space_for}
use Rattle.layout.specs.Layout.{Grows}
use Rattle.deltas.specs.Deltas.{arrived, over_in}
use Rattle.deltas.proofs.News.{arrived-length}
use Rattle.deltas.proofs.Counting.{mixed-old, labels-advanced, labels-bound}
use Rattle.deltas.proofs.Staying.{none-arrived}
use Rattle.deltas.proofs.Passing.{large-passes, total-passes, few-labels, round-packs}
use Rattle.advances.specs.Advances.{Midway, Kept}
use Rattle.advances.specs.Keeping.{Appended, TakenIn, KeptNew}
use Rattle.advances.proofs.Midways.{grows-nothing, words-laid, midway-next}

module _ {d : D.Description} {k n : ℕ} {sets news work log out : List ℕ} {end : ℕ} (x : Midway d k n sets news work log out end) (h : n < D.term_count d) where
  -- Nothing is new: the set stays as it is.
  pub midway-quiet : arrived d (suc k) n ≡ [] → {news' : List ℕ} → news' ≡ with_part news n (record { from = end; to = end })
      → Midway d k (suc n) sets news' work log out end
  midway-quiet none row =
      let same = none-arrived d k n none in
      midway-next x h {new = []} (sym (ap (map number) none)) (rw same (round-packs (length log) d k x.few n)) (omega arith) x.within
      (rw same (few-labels (length log) (round_sets d k) x.few n)) (sym (laid_nil end log)) row (grows-nothing (D.term_count d) n end sets work)

  -- What is given holds what is new.
  module _ {known : List ℕ} (made : List ℕ) (read : known ≡ words_in (part_at sets n) work)
      (all : less_of (map number (at (round_sets d k) n)) made ≡ map number (arrived d (suc k) n)) where
    abbrev new : List ℕ
    new = less_of known made

    set_before : known ≡ map number (at (round_sets d k) n)
    set_before = read ∙ x.stands.here n h ∙ ap (map number) (mixed-old d k n n (le_refl n))

    new-same : new ≡ map number (arrived d (suc k) n)
    new-same = ap (λ (s : List ℕ). less_of s made) set_before ∙ all

    -- how many labels there are in the set, and how many are new
    counts : length (at (round_sets d (suc k)) n) ≡ length known + length new
    counts =
        let a = ap length set_before ∙ length-map (at (round_sets d k) n) number in
        let b = ap length new-same ∙ length-map (arrived d (suc k) n) number in
        let c = arrived-length d k n in
        omega arith

    -- There is no room: the set is too large, or all sets together are.
    no_room : space_for known end log < length new → T (over_in (length log) (round_sets d (suc k)))
    no_room l = elim (dec_lt 1024 (length (at (round_sets d (suc k)) n))) [
      | yes m ↦ large-passes (length log) (round_sets d (suc k)) n m
      | no m ↦
          let b = ap length new-same ∙ length-map (arrived d (suc k) n) number in
          let c = x.counted in
          let w = x.within in
          total-passes (length log) (round_sets d (suc k)) (omega (arith, counts, labels-advanced d k n h, labels-bound d k (suc n)))
    ]

    few-now : length new ≤ space_for known end log → length (at (round_sets d (suc k)) n) ≤ 1024
    few-now l =
        let a = ap length set_before ∙ length-map (at (round_sets d k) n) number in
        let b = few-labels (length log) (round_sets d k) x.few n in
        omega (arith, counts)

module _ {known made sets news work log log' : List ℕ} {terms n end : ℕ} (read : known ≡ words_in (part_at sets n) work) where
  pub new-large : Appended known made end log log' (Err (record {})) → KeptNew terms n end made sets news work log sets news work log' (Err (record {}))
  new-large a = record {
    kept = λ out. record { sets_long = refl; news_long = refl; work_long = refl; log_long = a.long; out_long = refl };
    right = λ d k out e h x p all. rw a.long (no_room x h made read all (a.right x.within));
  }

  pub new-kept : {to : ℕ} {sets' news' work' : List ℕ} → Appended known made end log log' (Ok to)
      → TakenIn terms n (record { from = end; to = to }) log' sets news work sets' news' work'
      → KeptNew terms n end made sets news work log sets' news' work' log' (Ok to)
  new-kept {to} {sets'} {news'} {work'} a t = record {
    kept = λ out. record {
      sets_long = t.grown.long_row;
      news_long = ap length t.row ∙ length-with_part news n (record { from = end; to = to });
      work_long = t.grown.long_work;
      log_long = a.long;
      out_long = refl;
    };
    right = λ d k out e h x p all.
        let l = a.right x.within in
        let fits : to ≤ length log = let m = l.0 in let s = l.2 in let w = x.within in omega arith in
        let here = ap (words_in (record { from = end; to = to })) l.1 ∙ words-laid end to (less_of known made) log l.0 fits in
        midway-next x h (new-same x h made read all) p l.0 fits (few-now x h made read all l.2) l.1 t.row
        (subst (λ (m : ℕ). Grows m n to (less_of known made) sets work sets' work') e
        (subst (λ (s : List ℕ). Grows terms n to s sets work sets' work') here t.grown));
  }

-- The areas keep their lengths, one step after another.
pub kept_self : (sets news work log out : List ℕ) → Kept sets news work log out sets news work log out
kept_self sets news work log out = record { sets_long = refl; news_long = refl; work_long = refl; log_long = refl; out_long = refl }

pub kept_trans : {sets news work log out sets₁ news₁ work₁ log₁ out₁ sets₂ news₂ work₂ log₂ out₂ : List ℕ}
    → Kept sets news work log out sets₁ news₁ work₁ log₁ out₁ → Kept sets₁ news₁ work₁ log₁ out₁ sets₂ news₂ work₂ log₂ out₂
    → Kept sets news work log out sets₂ news₂ work₂ log₂ out₂
kept_trans a b = record {
  sets_long = b.sets_long ∙ a.sets_long;
  news_long = b.news_long ∙ a.news_long;
  work_long = b.work_long ∙ a.work_long;
  log_long = b.log_long ∙ a.log_long;
  out_long = b.out_long ∙ a.out_long;
}

-- No label to take in.
pub taken-nothing : {terms n : ℕ} {p : Part} {log sets news work news' : List ℕ} → is_empty p ≡ true → news' ≡ with_part news n p
    → TakenIn terms n p log sets news work sets news' work
taken-nothing {terms} {n} {p} {log} {sets} {work = work} e row =
    record { row = row; grown = rw (words-empty p log e) (grows-nothing terms n p.to sets work) }
