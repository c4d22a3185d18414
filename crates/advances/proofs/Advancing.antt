-- What advancing a term comes to: nothing is new in what its set is made of, or what is given is kept, or it passes a limit.
-- Assumes nothing.
use Rattle.std.specs.Prelude.{Result, Ok, Err}
use mathlib.Core.Path.{◌≡◌, refl, sym, ap, subst, ◌∙◌}
use mathlib.Core.Logic.{inl, inr}
use mathlib.Core.Bool.{Bool, true, false}
use mathlib.Core.List.{List, [], map}
use Prim.Native.Nat.{ℕ, suc, ◌≤◌, ◌<◌}
use native.Mathlib.Nat.{le_refl}
use native.Mathlib.Omega.{arith}
use lib.Dec.{T}
use lib.ListN.{length, length-append, length-take, length-drop}
use Rattle.meaning.specs.Labels.{number}
use Rattle.meaning.specs.Sets.{at, ascending}
use Rattle.meaning.specs.Descriptions as D
use Rattle.meaning.specs.Rounds.{round_sets}
use Rattle.slots.specs.declared.Term.{Term}
use Rattle.table.specs.Encoded.{term_for}
use Rattle.table.specs.Holding.{HoldsLists}
use Rattle.shapes.specs.declared.Shape.{Shape}
use Rattle.shapes.specs.Shaping.{shape_for}
use Rattle.parts.specs.Parts.{laid, most_labels, room_at}
use Rattle.sets.specs.declared.TooLarge.{TooLarge}
use Rattle.sets.specs.Building.{Building, answer_of}
use Rattle.sets.proofs.Steps.{built-holds, built-large}
use Rattle.sets.proofs.Refinement.{AllPack}
use Rattle.extents.specs.Extents.{with_part, words_in}
use Rattle.extents.proofs.Rows.{length-with_part}
use Rattle.logs.specs.Logs.{less_of}
use Rattle.layout.proofs.Stands.{standing-within}
use Rattle.deltas.specs.Deltas.{arrived, over_in}
use Rattle.deltas.proofs.Counting.{mixed-new, mixed-old}
use Rattle.deltas.proofs.Passing.{within-passes, round-packs}
use Rattle.deltas.proofs.Making.{arrived-logged, now-packs}
use Rattle.arrivals.specs.Arriving.{labels_of, arriving, Arrives}
use Rattle.arrivals.specs.Looking.{quiet}
use Rattle.arrivals.proofs.Arrivals.{Known, Given, arriving-adds, quiet-nothing}
use Rattle.advances.specs.Advances.{Midway, Advanced}
use Rattle.advances.specs.Keeping.{KeptNew}
use Rattle.advances.proofs.Midways.{words-laid}
use Rattle.advances.proofs.Keepings.{midway-quiet}

module _ {d : D.Description} {k n : ℕ} {sets news work log out : List ℕ} {end : ℕ} (x : Midway d k n sets news work log out end) (h : n < D.term_count d) where
  known : Known d k n (labels_of sets work) (labels_of news log)
  known = record {
    legal = x.legal;
    joins = x.joins;
    stands = λ t l. x.stands.here t (omega arith) ∙ ap (map number) (mixed-new d k n t l);
    own = x.stands.here n h ∙ ap (map number) (mixed-old d k n n (le_refl n));
    fresh = λ t l. (x.fresh t l).words;
    refs = λ e l. (x.refs e l).words;
    small = λ t l. (x.small t l).packs;
    smaller = round-packs (length log) d k x.few;
  }

  quiet_next : quiet sets news n (shape_for (term_for n (D.term_at d n))) ≡ true → {news' : List ℕ}
      → news' ≡ with_part news n (record { from = end; to = end }) → Midway d k (suc n) sets news' work log out end
  quiet_next q row = midway-quiet x h (quiet-nothing d k n sets news work log known (standing-within x.stands n h) q) row

  -- the words that sets are built in may hold anything
  midway-out : {out' : List ℕ} → length out' ≡ length out → Midway d k n sets news work log out' end
  midway-out e = record {
    legal = x.legal;
    joins = x.joins;
    stands = x.stands;
    counted = x.counted;
    within = x.within;
    halves = x.halves;
    room = rw e x.room;
    rows = x.rows;
    fresh = x.fresh;
    refs = x.refs;
    few = x.few;
    small = x.small;
  }

  -- What is given, by the room that there is.
  module _ (lists : List ℕ) (held : HoldsLists d lists) where
    abbrev room : ℕ
    room = room_at 0 most_labels (length out)

    abbrev built : Building
    built = arriving room lists (labels_of sets work) (labels_of news log) (shape_for (term_for n (D.term_at d n))) []

    given : Given d k n room built
    given = arriving-adds d k n (labels_of sets work) (labels_of news log) known lists held room h

    given-large : built.whole ≡ false → T (over_in (length log) (round_sets d (suc k)))
    given-large e = elim given.result [
      | inl w ↦ absurd (subst T (sym (ap (λ (b : Building). b.whole) w.built) ∙ e) tt)
      | inr w ↦
          within-passes (length log) (round_sets d (suc k)) n room given.labels given.adds.there (let r = x.room in omega arith) w.1
    ]

    given-whole : built.whole ≡ true → (built.set ≡ map number (ascending given.labels)) × AllPack (D.names d) given.labels
    given-whole e = elim given.result [
      | inl w ↦ (ap (λ (b : Building). b.set) w.built, w.packs)
      | inr w ↦ absurd (subst T (sym e ∙ w.0) tt)
    ]

    -- it holds what is new, and with the set of the round before it is the set of this round
    given-new : {made : List ℕ} → built.whole ≡ true → made ≡ built.set
        → AllPack (D.names d) (at (round_sets d (suc k)) n)
        × (less_of (map number (at (round_sets d k) n)) made ≡ map number (arrived d (suc k) n))
    given-new e f =
        let w = given-whole e in
        let p = round-packs (length log) d k x.few n in (
          now-packs d k n given.labels given.adds (D.names d) p w.1,
          ap (less_of (map number (at (round_sets d k) n))) (f ∙ w.0) ∙ arrived-logged d k n given.labels given.adds (D.names d) p w.1,
        )

-- a set that is laid at the start of words that stay as long is no longer than they are
laid-fits : (s ls : List ℕ) → length (laid 0 s ls) ≡ length ls → length s ≤ length ls
unfolding laid
laid-fits s ls e = let l = simp (length-append, length-take, length-drop) at e in omega arith

-- a set that is whole stands there
whole_set : (b : Building) {count : ℕ} (out : List ℕ) {out' : List ℕ} → Ok count ≡ answer_of b → out' ≡ laid 0 b.set out → length out' ≡ length out
    → (b.whole ≡ true) × (words_in (record { from = 0; to = count }) out' ≡ b.set)
whole_set b {count} out e f long =
    let p = built-holds b.whole (length b.set) count e in
    let fits = laid-fits b.set out (sym (ap length f) ∙ long) in
    (p.0, ap (words_in (record { from = 0; to = count })) f ∙ words-laid 0 count b.set out (omega (arith, p.1)) (omega (arith, p.1)))

module _ {term : Term} {lists : List ℕ} {terms n end : ℕ} {sets news work log out : List ℕ} where
  pub advanced-quiet : {shape : Shape} {asked : Bool} → shape ≡ shape_for term → asked ≡ quiet sets news n shape → asked ≡ true → {news' : List ℕ}
      → news' ≡ with_part news n (record { from = end; to = end }) → Advanced term lists terms n end sets news work log out sets news' work log out (Ok end)
  advanced-quiet f g q row = record {
    kept = record {
      sets_long = refl;
      news_long = ap length row ∙ length-with_part news n (record { from = end; to = end });
      work_long = refl;
      log_long = refl;
      out_long = refl;
    };
    right = λ d k t s e h x. quiet_next x h (ap (λ (u : Term). quiet sets news n (shape_for u)) (sym t) ∙ ap (quiet sets news n) (sym f) ∙ sym g ∙ q) row;
  }

  module _ {out' : List ℕ} (long : length out' ≡ length out) where
    pub advanced-large : Arrives (shape_for term) lists work sets log news out out' (Err (record {}))
        → Advanced term lists terms n end sets news work log out sets news work log out' (Err (record {}))
    advanced-large a = record {
      kept = record { sets_long = refl; news_long = refl; work_long = refl; log_long = refl; out_long = long };
      right = λ d k t s e h x. given-large x h lists s (let b = rw t at a in built-large _ _ b.answer);
    }

    pub advanced-kept : {count : ℕ} → Arrives (shape_for term) lists work sets log news out out' (Ok count) → {made : List ℕ}
        → made ≡ words_in (record { from = 0; to = count }) out' → {sets' news' work' log' : List ℕ} {r : Result ℕ TooLarge}
        → KeptNew terms n end made sets news work log sets' news' work' log' r
        → Advanced term lists terms n end sets news work log out sets' news' work' log' out' r
    advanced-kept {count} a {made} read {sets'} {news'} {work'} {log'} {r} new = record {
      kept =
          let kept = new.kept out' in
          record {
            sets_long = kept.sets_long;
            news_long = kept.news_long;
            work_long = kept.work_long;
            log_long = kept.log_long;
            out_long = long;
          };
      right = λ d k t s e h x.
          let b = rw t at a in
          let w = whole_set _ out b.answer b.words long in
          let g = given-new x h lists s w.0 (read ∙ w.1) in
          new.right d k out' e h (midway-out x h long) g.0 g.1;
    }
