-- A table of labels that a set is known to have: one that stands in it is passed over, and one that is put in is kept.
-- Assumes nothing.
use Rattle.std.proofs.Common.{◌≡◌, ℕ, ◌+◌, ◌<◌, ◌≤◌, true, not, eqb, List, length, get_or, set, replicate, sym, refl, ap, ◌∙◌, subst, ap₂, inl, inr, arith, length-set, get_or-set_other, get_or-set_same, eqb-true, Result, Ok, Err}
use native.Mathlib.Decide.{dec_lt, ℕ_discrete}
use borrow.Author.Tests.{eqb-false, not-true}
use lib.ListN.{get_or-replicate, length-replicate, get_or-eq_default}
use lib.Seq.{set_out}
use Rattle.meaning.specs.Sets.{◌∈◌, Rising}
use Rattle.labels.specs.declared.Label.{Label}
use Rattle.labels.specs.Packing.{code, packed}
use Rattle.parts.specs.Parts.{set_at, most_labels, room_at, reach_of}
use Rattle.parts.proofs.LaidSets.{length-set_at, set_at-reach, laid-self, set_at-laid}
use Rattle.sets.specs.declared.TooLarge.{TooLarge}
use Rattle.sets.specs.Inserting.{inserted, insert_number}
use Rattle.sets.specs.Building.{Building, done, answer_of, each, enter, GrownAt}
use Rattle.sets.proofs.Steps.{Steady, steady-enter, steady-fits, built-holds, laid-set}
use Rattle.sets.proofs.Ascent.{and-true, Entering, rising-enter, rising-insert}
use Rattle.sets.proofs.Presence.{in_insert, in-present}
use Rattle.extents.specs.Extents.{at_start}
use Rattle.extents.proofs.RowWalks.{RowWalk, row-start, row-holds, row-large, row-end}
use Rattle.sums.specs.Seen.{is_kept, Kept, GrownKept}

-- Tables that keep nothing: with no slots, and with empty ones.
pub kept-nowhere : (seen s : List ℕ) → length seen ≤ 0 → Kept seen s
kept-nowhere seen s h = record {
  rising = λ k. absurd (omega arith);
  there = λ at some. absurd (some (get_or-eq_default seen 0 (omega arith)));
}

pub kept-none : (n : ℕ) (s : List ℕ) → Rising s → Kept (replicate n 0) s
kept-none n s r = record {
  rising = λ h. r;
  there = λ at some. elim (dec_lt at n) [
    | yes h ↦ absurd (some (get_or-replicate n at 0 0 h))
    | no h ↦ absurd (some (get_or-eq_default (replicate n 0) 0 (omega (arith, length-replicate {A = ℕ} n 0))))
  ];
}

-- A set with more labels, and a table with one more.
kept_more : {seen s t : List ℕ} → Kept seen s → Rising t → ((w : ℕ) → w ∈ s → w ∈ t) → Kept seen t
kept_more {seen} x r f = record { rising = λ h. r; there = λ at some. f (get_or seen at 0) (x.there at some) }

kept-with : {seen s : List ℕ} (slot w : ℕ) → Kept seen s → w ∈ s → Kept (set seen slot w) s
kept-with {seen} {s} slot w x m = record {
  rising = λ h. x.rising (simp length-set at h);
  there = λ at some. elim (dec_lt slot (length seen)) [
    | no h ↦ rw (set_out seen slot w (omega arith)) (x.there at (rw (set_out seen slot w (omega arith)) at some))
    | yes h ↦ elim (ℕ_discrete at slot) [
      | yes e ↦ rw (e, get_or-set_same seen slot w 0 h) m
      | no d ↦ rw (get_or-set_other seen slot at w 0 d) (x.there at (rw (get_or-set_other seen slot at w 0 d) at some))
    ]
  ];
}

-- A label that is kept: the set has it, and ascends, so that it changes nothing to put it in.
kept_there : {seen s : List ℕ} (slot w : ℕ) → Kept seen s → is_kept seen slot w ≡ true → Rising s × (w ∈ s)
kept_there {seen} {s} slot w x e =
    let p = and-true (not (eqb w 0)) (eqb (get_or seen slot 0) w) e in
    let some = eqb-false w 0 (not-true (eqb w 0) p.0) in
    let stands = eqb-true (get_or seen slot 0) w p.1 in
    let slots : 0 < length seen = elim (dec_lt slot (length seen)) [
      | yes h ↦ omega arith
      | no h ↦ absurd (some (sym stands ∙ get_or-eq_default seen 0 (omega arith)))
    ] in
    (x.rising slots, subst (λ (v : ℕ). v ∈ s) stands (x.there slot (λ z. some (sym stands ∙ z))))

enter-there : (room w : ℕ) (s : List ℕ) → Rising s → w ∈ s → enter room w s ≡ done s
unfolding inserted
enter-there room w s r m = rw (in-present s w r m)

same_count : {m n : ℕ} → ◌≡◌ {A = Result ℕ TooLarge} (Ok m) (Ok n) → m ≡ n
same_count e = cc

-- the same of the set as far as it lies in the words
kept-reached : {seen : List ℕ} {count : ℕ} (len : ℕ) (words : List ℕ) → count ≡ reach_of 0 len (length words) → Kept seen (set_at 0 len words)
    → Kept seen (set_at 0 count words)
kept-reached len words e x = rw (e, set_at-reach 0 len words) x

pub passed_over : {seen words : List ℕ} {len count : ℕ} (slot w : ℕ) → Kept seen (set_at 0 len words) → true ≡ is_kept seen slot w
    → count ≡ reach_of 0 len (length words) → GrownKept len (λ room. enter room w) words words seen (Ok count)
passed_over {seen} {words} {len} {count} slot w x k e =
    let p = kept_there slot w x (sym k) in
    let same = enter-there (room_at 0 most_labels (length words)) w (set_at 0 len words) p.0 p.1 in
    record {
      grown = record {
        answer = ap Ok (e ∙ sym (length-set_at 0 len words)) ∙ ap answer_of (sym same);
        words = sym (laid-self 0 len words) ∙ laid-set 0 words (sym same);
      };
      table = λ n d. subst (λ (m : ℕ). Kept seen (set_at 0 m words)) (same_count d) (kept-reached len words e x);
    }

-- A set that would pass a limit: nothing is asked of the table any more.
pub grown-stops : {len : ℕ} {build : ℕ → List ℕ → Building} {before after seen : List ℕ} {r : Result ℕ TooLarge}
    → GrownAt (at_start len) build before after r → r ≡ Err (record {}) → GrownKept len build before after seen (Err (record {}))
grown-stops {len} {build} {before} {after} g e = record {
  grown = subst (GrownAt (at_start len) build before after) e g;
  table = λ n d. absurd (let z : ◌≡◌ {A = ℕ} 0 1 = cc d in omega arith);
}

-- A label that was put in, and then kept.
entered-whole : (room w : ℕ) (s : List ℕ) → Rising s → (enter room w s).whole ≡ true → (enter room w s).set ≡ insert_number w s
unfolding Entering
entered-whole room w s r h = elim (rising-enter room w s r) [
  | inl e ↦ ap (λ (b : Building). b.set) e
  | inr e ↦ absurd (let z : ◌≡◌ {A = ℕ} 0 1 = cc (ap (λ (b : Building). b.whole) e.0, h) in omega arith)
]

kept-entered : {seen s : List ℕ} (room slot w : ℕ) → Kept seen s → (enter room w s).whole ≡ true → Kept (set seen slot w) (enter room w s).set
kept-entered {seen} {s} room slot w x h = elim (dec_lt 0 (length seen)) [
  | no k ↦ kept-nowhere (set seen slot w) (enter room w s).set (simp length-set (omega arith))
  | yes k ↦
      let r = x.rising k in
      rw (entered-whole room w s r h)
      (kept-with slot w (kept_more x (rising-insert w s r) (λ v m. (in_insert w s v).1 (inr m))) ((in_insert w s w).1 (inl refl)))
]

pub now-kept : {seen before after : List ℕ} {len n : ℕ} {r : Result ℕ TooLarge} (slot w : ℕ) → Kept seen (set_at 0 len before)
    → GrownAt (at_start len) (λ room. enter room w) before after r → r ≡ Ok n
    → GrownKept len (λ room. enter room w) before after (set seen slot w) (Ok n)
now-kept {seen} {before} {after} {len} {n} slot w x g e =
    let room = room_at 0 most_labels (length before) in
    let b = enter room w (set_at 0 len before) in
    let fits = steady-fits 0 len most_labels (enter room w) before (steady-enter room w) in
    record {
      grown = subst (GrownAt (at_start len) (λ m. enter m w) before after) e g;
      table = λ m d.
          let p = built-holds b.whole (length b.set) m (sym d ∙ sym e ∙ g.answer) in
          let same : set_at 0 m after ≡ b.set = ap₂ (set_at 0) p.1 g.words ∙ set_at-laid 0 b.set before fits in
          rw same (kept-entered room slot w x p.0);
    }

-- A loop over a row whose labels each go through a step, with a table.
pub record TableWalk (step : ℕ → ℕ → List ℕ → Building) (labels : List ℕ) (len : ℕ) (before : List ℕ) (end : ℕ) (seen now : List ℕ)
    (count i : ℕ) : Type 0 where
  pub walk : RowWalk step labels len before end now count i
  pub kept : Kept seen (set_at 0 count now)

pub table-start : {step : ℕ → ℕ → List ℕ → Building} {labels : List ℕ} {len : ℕ} {seen before : List ℕ} {end start : ℕ}
    → Kept seen (set_at 0 len before) → start ≡ reach_of 0 len (length before) → end ≡ length labels
    → TableWalk step labels len before end seen before start 0
table-start {len = len} {before = before} x e f = record { walk = row-start e f; kept = kept-reached len before e x }

module _ {step : ℕ → ℕ → List ℕ → Building} {labels : List ℕ} {len : ℕ} {before : List ℕ} {end : ℕ} {seen now : List ℕ} {count i : ℕ}
    (x : TableWalk step labels len before end seen now count i) where
  pub table-end : end ≤ i → GrownKept len (λ room. each (step room) labels) before now seen (Ok count)
  table-end h = record { grown = row-end x.walk h; table = λ n e. subst (λ (m : ℕ). Kept seen (set_at 0 m now)) (same_count e) x.kept }

  -- a label is read and goes through a step that a function takes
  module _ (steady : (room w : ℕ) → Steady room (step room w)) (l : i < end) {label : Label} (read : label ≡ packed (get_or labels i 0))
      {after more : List ℕ} {r : Result ℕ TooLarge} (g : GrownKept count (λ room. step room (code label)) now after more r) where
    pub table-holds : {n : ℕ} → r ≡ Ok n → TableWalk step labels len before end more after n (i + 1)
    table-holds {n} e = record { walk = row-holds x.walk steady l read g.grown e; kept = g.table n e }

    pub table-large : r ≡ Err (record {}) → GrownKept len (λ room. each (step room) labels) before after more (Err (record {}))
    table-large e = grown-stops (row-large x.walk steady l read g.grown e) refl
