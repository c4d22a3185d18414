-- One term more of a round is done: what is new in its set was logged, and went into the set.
-- Assumes nothing.
use mathlib.Core.Path.{◌≡◌, refl, sym, ap, ap₂, ◌∙◌}
use mathlib.Core.List.{List, [], map}
use Prim.Native.Nat.{ℕ, zero, suc, ◌+◌, ◌*◌, ◌-◌, ◌≤◌, ◌<◌}
use native.Mathlib.Nat.{le_refl}
use native.Mathlib.Decide.{ℕ_discrete}
use native.Mathlib.Omega.{arith}
use lib.ListN.{length, take, length-map}
use Rattle.meaning.specs.Labels.{Label, number}
use Rattle.meaning.specs.Sets.{at}
use Rattle.meaning.specs.Descriptions as D
use Rattle.meaning.specs.Rounds.{round_sets}
use Rattle.sets.proofs.Refinement.{AllPack}
use Rattle.parts.specs.declared.Part.{Part}
use Rattle.parts.specs.Parts.{set_at, laid}
use Rattle.parts.proofs.LaidSets.{length-laid, take-laid, set_at-laid}
use Rattle.merging.specs.Joining.{joined}
use Rattle.extents.specs.Extents.{part_at, with_part, words_in}
use Rattle.extents.proofs.Rows.{part-set, part-other, length-with_part, words-grown, words-cut}
use Rattle.layout.specs.Layout.{Standing, Grows, sizes, joined_at}
use Rattle.layout.proofs.Stands.{standing-as, joined-here, joined-other}
use Rattle.deltas.specs.Deltas.{arrived, mixed, labels_in}
use Rattle.deltas.proofs.News.{before-rising, arrived-rising, arrived-apart, arrived-joined}
use Rattle.deltas.proofs.Counting.{mixed-new, mixed-old, mixed-other, labels-advanced}
use Rattle.arrivals.specs.Arriving.{news_of}
use Rattle.advances.specs.Advances.{Logged, Small, Midway}

-- How many labels there are together does not depend on whether they are counted as labels or by their numbers.
sizes-numbers : (m : ℕ) (f : ℕ → List Label) → sizes m (λ t. map number (f t)) ≡ labels_in m f
unfolding sizes labels_in
sizes-numbers zero f = refl
sizes-numbers (suc m) f = ap₂ (λ (a b : ℕ). a + b) (sizes-numbers m f) (length-map (f m) number)

-- Nothing is new: nothing changes.
pub grows-nothing : (terms n total : ℕ) (row work : List ℕ) → Grows terms n total [] row work row work
unfolding joined
grows-nothing terms n total row work = record {
  long_row = refl;
  long_work = refl;
  right = λ sets x h r q a e k. standing-as x (λ t l. elim (ℕ_discrete t n) [
    | yes o ↦ rw o (sym (joined-here n [] sets))
    | no o ↦ sym (joined-other n [] sets t o)
  ]);
}

-- What was logged stays, while the log grows behind it.
logged-grown : {log log' : List ℕ} {end end' : ℕ} {p : Part} {labels : List Label} → take end log ≡ take end log' → end ≤ end' → Logged log end p labels
    → Logged log' end' p labels
logged-grown {log} {log'} {end} {p = p} e h x = record {
  words = words-grown {n = end} p log log' e x.before ∙ x.words;
  upright = x.upright;
  before = let b = x.before in omega arith;
}

-- what is laid at a place stands there
pub words-laid : (at to : ℕ) (s ls : List ℕ) → to ≡ at + length s → to ≤ length ls → words_in (record { from = at; to = to }) (laid at s ls) ≡ s
words-laid at to s ls e h =
    let count : to - at ≡ length s = omega arith in
    sym (words-cut at to (record { from = at; to = to }) (laid at s ls) refl refl)
    ∙ ap (λ (n : ℕ). set_at at n (laid at s ls)) count ∙ set_at-laid at s ls (omega arith)

module _ {d : D.Description} {k n : ℕ} {sets news work log out : List ℕ} {end : ℕ} (x : Midway d k n sets news work log out end) (h : n < D.term_count d)
    {new : List ℕ} (e : new ≡ map number (arrived d (suc k) n)) (p : AllPack (D.names d) (at (round_sets d (suc k)) n)) where
  abbrev before : ℕ → List ℕ
  before t = map number (mixed d k n t)

  here : before n ≡ map number (at (round_sets d k) n)
  here = ap (map number) (mixed-old d k n n (le_refl n))

  count : length new ≡ length (arrived d (suc k) n)
  count = ap length e ∙ length-map (arrived d (suc k) n) number

  -- the sets with what is new in one more of them
  mixed-next : (t : ℕ) → joined_at n new before t ≡ map number (mixed d k (suc n) t)
  mixed-next t = elim (ℕ_discrete t n) [
    | yes o ↦
        rw o (joined-here n new before ∙ ap₂ joined here e ∙ arrived-joined d k n (D.names d) p
        ∙ ap (map number) (sym (mixed-new d k (suc n) n (le_refl (suc n)))))
    | no o ↦ joined-other n new before t o ∙ ap (map number) (mixed-other d k n t o)
  ]

  module _ {end' : ℕ} (to : end' ≡ end + length new) (fits : end' ≤ length log) where
    pub stands-next : {sets' work' : List ℕ} → Grows (D.term_count d) n end' new sets work sets' work'
        → Standing (D.term_count d) (λ t. map number (mixed d k (suc n) t)) sets' work'
    stands-next g =
        let m = D.names d in
        let all = sizes-numbers (D.term_count d) (mixed d k n) in
        let c = x.counted in
        let l = x.halves in
        standing-as (g.right before x.stands h (rw here (before-rising d k n m p)) (rw e (arrived-rising d k n m p))
        (rw (here, e) (arrived-apart d k n m p)) (omega arith) (omega arith)) (λ t l. mixed-next t)

    -- what is new stands in the log, and all that was logged before it
    module _ (few : length (at (round_sets d (suc k)) n) ≤ 1024) {news' log' : List ℕ} (written : log' ≡ laid end new log)
        (row : news' ≡ with_part news n (record { from = end; to = end' })) where
      abbrev added : Part
      added = record { from = end; to = end' }

      log-length : length log' ≡ length log
      log-length = ap length written ∙ length-laid end new log (omega arith)

      log-before : take end log ≡ take end log'
      log-before = sym (ap (take end) written ∙ take-laid end new log (omega arith))

      room_for : 2 * n + 1 < length news
      room_for = let r = x.rows in let t = x.legal.terms_count in omega arith

      row_here : part_at news' n ≡ added
      row_here = ap (λ (r : List ℕ). part_at r n) row ∙ part-set news n added room_for

      row_other : (t : ℕ) → (t ≡ n → ⊥) → part_at news' t ≡ part_at news t
      row_other t o = ap (λ (r : List ℕ). part_at r t) row ∙ part-other news n t added o

      logged-here : Logged log' end' added (arrived d (suc k) n)
      logged-here = record {
        words = ap (words_in added) written ∙ words-laid end end' new log to fits ∙ e;
        upright = omega arith;
        before = omega arith;
      }

      fresh-next : (t : ℕ) → t < suc n → Logged log' end' (part_at news' t) (arrived d (suc k) t)
      fresh-next t l = elim (ℕ_discrete t n) [
        | yes o ↦ rw (o, row_here) logged-here
        | no o ↦ rw (row_other t o) (logged-grown log-before (omega arith) (x.fresh t (omega arith)))
      ]

      refs-next : (i : ℕ) → i < length d.bodies → Logged log' end' (part_at news' (news_of i)) (arrived d k (D.body_at d i))
      refs-next i l =
          let t = x.legal.terms_count in
          rw (row_other (news_of i) (λ o. omega arith)) (logged-grown log-before (omega arith) (x.refs i l))

      small-next : (t : ℕ) → t < suc n → Small (D.names d) (at (round_sets d (suc k)) t)
      small-next t l = elim (ℕ_discrete t n) [ yes o ↦ rw o (record { packs = p; few = few }) | no o ↦ x.small t (omega arith) ]

      pub midway-next : {sets' work' : List ℕ} → Grows (D.term_count d) n end' new sets work sets' work' → Midway d k (suc n) sets' news' work' log' out end'
      midway-next g = record {
        legal = x.legal;
        joins = x.joins;
        stands = stands-next g;
        counted = let c = x.counted in let a = labels-advanced d k n h in omega (arith, count);
        within = rw log-length fits;
        halves = rw (log-length, g.long_work) x.halves;
        room = rw log-length x.room;
        rows = rw (row, length-with_part news n added) x.rows;
        fresh = fresh-next;
        refs = refs-next;
        few = rw log-length x.few;
        small = small-next;
      }
