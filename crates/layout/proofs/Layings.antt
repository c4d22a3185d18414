-- The sets as they are laid anew, one after the other, in the half where they do not stand.
-- Assumes nothing.
use mathlib.Core.Path.{◌≡◌, refl, sym, ap, ◌∙◌}
use mathlib.Core.Logic.{◌⊎◌, inl, inr, ⊎_elim}
use mathlib.Core.Bool.{Bool, true, false}
use mathlib.Core.List.{List}
use Prim.Native.Nat.{ℕ, zero, suc, ◌+◌, ◌*◌, ◌-◌, ◌/◌, ◌^◌, ◌≤◌, ◌<◌}
use native.Mathlib.Nat.{not-suc-le-zero, mul-le-mul_right, div-mul-le_self}
use native.Mathlib.Numerals.{add-one}
use native.Mathlib.Decide.{dec_lt}
use native.Mathlib.Omega.{arith}
use borrow.Author.Tests.{eq-eqb, ne_eqb}
use lib.Dec.{eqb}
use lib.ListN.{length}
use Rattle.meaning.specs.Rounds.{pick}
use Rattle.parts.specs.declared.Part.{Part}
use Rattle.parts.specs.Parts.{part, laid}
use Rattle.extents.specs.Extents.{part_at, with_part, words_in}
use Rattle.extents.proofs.Rows.{part-set, part-other, part-as, length-with_part}
use Rattle.layout.specs.Layout.{Standing, half_of, sizes}
use Rattle.layout.specs.Laying.{Movable, Moved, Free, Gap, Roomy, RoomMade}
use Rattle.layout.proofs.Carries.{words-beside, words-laid}
use Rattle.layout.proofs.Stands.{standing-order, standing-within, standing-length, standing-upper, sizes-mono}

-- Where each set is laid: one behind the other, with a gap behind each and more room behind one.
unfoldable place : (start gap n more : ℕ) → (ℕ → List ℕ) → ℕ → ℕ
place start gap n more sets zero = start
place start gap n more sets (suc t) = place start gap n more sets t + length (sets t) + gap + pick (eqb t n) more 0

module _ (start gap n more : ℕ) (sets : ℕ → List ℕ) where
  abbrev at : ℕ → ℕ
  at = place start gap n more sets

  place-before : (t : ℕ) → t ≤ n → at t ≡ start + sizes t sets + t * gap
  unfolding place sizes
  place-before zero h = omega arith
  place-before (suc t) h = let e = place-before t (omega arith) in rw (ne_eqb t n (λ e. omega arith)) (omega arith)

  place-past : (t : ℕ) → n < t → at t ≡ start + sizes t sets + t * gap + more
  unfolding place sizes
  place-past zero h = absurd (not-suc-le-zero h)
  place-past (suc t) h = elim (dec_lt n t) [
    | yes l ↦ let e = place-past t l in rw (ne_eqb t n (λ e. omega arith)) (omega arith)
    | no l ↦ let e = place-before t (omega arith) in rw (eq-eqb t n (omega arith)) (omega arith)
  ]

  place-next : (t : ℕ) → at t + length (sets t) ≤ at (suc t)
  unfolding place
  place-next t = omega arith

  place-room : at n + length (sets n) + more ≤ at (suc n)
  unfolding place
  place-room = rw (eq-eqb n n refl) (omega arith)

  place-order : (u t : ℕ) → u < t → at u + length (sets u) ≤ at t
  place-order u zero h = absurd (not-suc-le-zero h)
  place-order u (suc t) h = elim (dec_lt u t) [
    | yes l ↦ let e = place-order u t l in let k = place-next t in omega arith
    | no l ↦ let e : u ≡ t = omega arith in rw e (place-next t)
  ]

  place-start : (t : ℕ) → start ≤ at t
  unfolding place
  place-start zero = omega arith
  place-start (suc t) = let e = place-start t in omega arith

  place_end : {terms room total : ℕ} → total ≡ sizes terms sets + more → total ≤ room → gap ≡ (room - total) / terms → (t : ℕ) → t ≤ terms
      → at t ≤ start + room
  place_end {terms} {room} {total} e h g t k =
      let a = mul-le-mul_right gap k in
      let b : gap * terms ≤ room - total = rw g (div-mul-le_self (room - total) terms) in
      let s = sizes-mono sets t terms k in
      elim (dec_lt n t) [
        | yes l ↦ let p = place-past t l in omega arith
        | no l ↦ let p = place-before t (omega arith) in omega arith
      ]

-- What is settled before the first set is laid.
pub record Plan (terms total more : ℕ) (row work : List ℕ) (half gap start end : ℕ) : Type 0 where
  pub few : more < 2 ^ 60
  pub halves : half ≡ half_of work
  pub gaps : Gap half total terms gap
  pub side : Free half (part_at row terms).from start
  pub ends : end ≡ start + half

pub planned : {terms total more count gap start : ℕ} {row work : List ℕ} → more < 2 ^ 60 → count ≡ length work → Gap (count / 2) total terms gap
    → Free (count / 2) (part_at row terms).from start → Plan terms total more row work (count / 2) gap start (start + count / 2)
planned m e g s = record { few = m; halves = ap (λ (n : ℕ). n / 2) e; gaps = g; side = s; ends = refl }

pub plan-within : {terms total more : ℕ} {row work : List ℕ} {half gap start end : ℕ} → Plan terms total more row work half gap start end
    → (gap ≤ length work) × (end ≤ length work)
plan-within p =
    let f = p.halves in
    let l = p.ends in
    let g = p.gaps.small in
    (omega arith, ⊎_elim (λ s. let b = s.1 in omega arith) (λ s. let b = s.1 in omega arith) p.side)

pub pick_small : (b : Bool) (m : ℕ) → pick b m 0 ≤ m
pick_small true m = omega arith
pick_small false m = omega arith

-- The sets before the t-th stand anew; the others stand where they stood.
pub record Laying (start gap n more terms : ℕ) (sets : ℕ → List ℕ) (row₀ : List ℕ) (t : ℕ) (row work : List ℕ) (at : ℕ) : Type 0 where
  next : at ≡ place start gap n more sets t
  moved : (u : ℕ) → u < t → let p = place start gap n more sets u in
      (part_at row u ≡ record { from = p; to = p + length (sets u) }) × (part p (p + length (sets u)) work ≡ sets u)
  left : (u : ℕ) → t ≤ u → u < terms → (part_at row u ≡ part_at row₀ u) × (words_in (part_at row₀ u) work ≡ sets u)

module _ {terms n total more : ℕ} {row₀ work₀ : List ℕ} {half gap start end : ℕ} (p : Plan terms total more row₀ work₀ half gap start end)
    {sets : ℕ → List ℕ} (x : Standing terms sets row₀ work₀) (h : n < terms) (e : total ≡ sizes terms sets + more)
    (enough : total ≤ half_of work₀) where
  abbrev placed : ℕ → ℕ
  placed = place start gap n more sets

  placed_end : (t : ℕ) → t ≤ terms → placed t ≤ end
  placed_end t k =
      let fit : total ≤ half = omega (arith, p.halves) in
      rw p.ends (place_end start gap n more sets e fit (p.gaps.share fit (omega arith)) t k)

  outside : (u : ℕ) → u < terms → ((part_at row₀ u).to ≤ start) ⊎ (end ≤ (part_at row₀ u).from)
  outside u k =
      let f = p.halves in
      let l = p.ends in
      ⊎_elim
      (λ s. inl (let o = standing-order x u terms k (omega arith) in omega arith))
      (λ s. inr (let o = standing-upper x (omega arith) u k in omega arith))
      p.side

  laying-start : Laying start gap n more terms sets row₀ 0 row₀ work₀ start
  unfolding place
  laying-start = record { next = refl; moved = λ u k. absurd (not-suc-le-zero k); left = λ u k l. (refl, x.here u l) }

  module _ {t : ℕ} {row work : List ℕ} {at : ℕ} (y : Laying start gap n more terms sets row₀ t row work at)
      (long_row : length row ≡ length row₀) (long_work : length work ≡ length work₀) where
    module _ (k : t < terms) where
      same : part_at row t ≡ part_at row₀ t
      same = (y.left t (omega arith) k).0

      count : (part_at row t).to - (part_at row t).from ≡ length (sets t)
      count = ap (λ (q : Part). q.to - q.from) same ∙ sym (standing-length x t k)

      fits : at + length (sets t) ≤ end
      fits = let l = place-next start gap n more sets t in let m = placed_end (suc t) k in let q = y.next in omega arith

      movable : Movable start end at (part_at row t) (length work)
      movable = rw same (record {
        upright = x.upright t k;
        there = let w = standing-within x t k in omega arith;
        fits = let l = standing-length x t k in let f = fits in omega arith;
        outside = outside t k;
      })

      there : words_in (part_at row t) work ≡ sets t
      there = ap (λ (q : Part). words_in q work) same ∙ (y.left t (omega arith) k).1

      inside : at + length (sets t) ≤ length work
      inside = let f = fits in let w = plan-within p in omega arith

      module _ {row' work' : List ℕ} {r : ℕ} (m : Moved t start end at row work row' work' r) where
        words' : work' ≡ laid at (sets t) work
        words' = (m.right movable).0 ∙ ap (λ (s : List ℕ). laid at s work) there

        part' : (u : ℕ) → part_at row' u ≡ part_at (with_part row t (record { from = at; to = r })) u
        part' u = ap (λ (q : List ℕ). part_at q u) (m.right movable).1

        end' : r ≡ at + length (sets t)
        end' = (m.right movable).2 ∙ ap (λ (c : ℕ). at + c) count

        moved_here : let a = placed t in
            (part_at row' t ≡ record { from = a; to = a + length (sets t) }) × (part a (a + length (sets t)) work' ≡ sets t)
        moved_here =
            let l = x.long in (
              part' t ∙ part-set row t (record { from = at; to = r }) (omega arith)
                  ∙ part-as y.next (end' ∙ ap (λ (a : ℕ). a + length (sets t)) y.next),
              rw (words', ← y.next) (words-laid at (sets t) work inside (at + length (sets t)) refl),
            )

        laying-step : {at' : ℕ} → at' ≡ r + gap + pick (eqb t n) more 0 → Laying start gap n more terms sets row₀ (suc t) row' work' at'
        unfolding place
        laying-step f = record {
          next = f ∙ ap (λ (a : ℕ). a + gap + pick (eqb t n) more 0) (end' ∙ ap (λ (a : ℕ). a + length (sets t)) y.next);
          moved = λ u l. elim (dec_lt u t) [
            | yes b ↦
                let q = y.moved u b in
                let o = place-order start gap n more sets u t b in
                let a = placed u in (
                  part' u ∙ part-other row t u (record { from = at; to = r }) (λ e. omega arith) ∙ q.0,
                  ap (part a (a + length (sets u))) words'
                      ∙ words-beside at (sets t) work inside (record { from = a; to = a + length (sets u) }) (inl (omega (arith, y.next))) ∙ q.1,
                )
            | no b ↦ let e : u ≡ t = omega arith in rw e moved_here
          ];
          left = λ u l b.
              let q = y.left u (omega arith) b in
              let o = place-start start gap n more sets t in
              let f = fits in
              let g = y.next in (
                part' u ∙ part-other row t u (record { from = at; to = r }) (λ e. omega arith) ∙ q.0,
                ap (words_in (part_at row₀ u)) words'
                    ∙ words-beside at (sets t) work inside (part_at row₀ u) (⊎_elim (λ s. inl (omega arith)) (λ s. inr (omega arith)) (outside u b)) ∙ q.1,
              );
        }

    -- the part after the last begins where the half ends
    module _ (f : t ≡ terms) {row' : List ℕ} (w : row' ≡ with_part row terms (record { from = end; to = end })) where
      new-part : (u : ℕ) → u < terms → part_at row' u ≡ record { from = placed u; to = placed u + length (sets u) }
      new-part u l =
          ap (λ (q : List ℕ). part_at q u) w ∙ part-other row terms u (record { from = end; to = end }) (λ e. omega arith)
          ∙ (y.moved u (omega arith)).0

      new-last : part_at row' terms ≡ record { from = end; to = end }
      new-last =
          let l = x.long in
          ap (λ (q : List ℕ). part_at q terms) w ∙ part-set row terms (record { from = end; to = end }) (omega arith)

      new-next : (u : ℕ) → u < terms → placed (suc u) ≤ (part_at row' (suc u)).from
      new-next u l = elim (dec_lt (suc u) terms) [
        | yes b ↦ let q = ap (λ (q : Part). q.from) (new-part (suc u) b) in omega arith
        | no b ↦
            let g : suc u ≡ terms = omega arith in
            let q = ap (λ (q : Part). q.from) new-last in
            let b = placed_end terms (omega arith) in
            rw g (omega arith)
      ]

      laying-end : Roomy terms n more sets row' work
      laying-end = record {
        stands = record {
          long = let l = x.long in omega (arith, ap length w ∙ length-with_part row terms (record { from = end; to = end }));
          here = λ u l. ap (λ (q : Part). words_in q work) (new-part u l) ∙ (y.moved u (omega arith)).1;
          upright = λ u l.
              let a = ap (λ (q : Part). q.from) (new-part u l) in
              let b = ap (λ (q : Part). q.to) (new-part u l) in
              omega arith;
          apart = λ u l.
              let b = ap (λ (q : Part). q.to) (new-part u l) in
              let o = place-next start gap n more sets u in
              let k = new-next u l in
              omega arith;
          half =
              let l = p.ends in
              let z = p.halves in
              let a = ap (λ (q : Part). q.from) (new-part 0 (omega arith)) in
              let b = ap (λ (q : Part). q.from) new-last in
              let o = place-start start gap n more sets 0 in
              ⊎_elim
              (λ s. let g = s.1 in elim (dec_lt 0 half) [
                | yes q ↦ inr (omega arith)
                | no q ↦ inl (omega arith)
              ])
              (λ s. let g = s.1 in inl (omega arith))
              p.side;
        };
        room =
            let b = ap (λ (q : Part). q.to) (new-part n h) in
            let o = place-room start gap n more sets in
            let k = new-next n h in
            omega arith;
      }

-- All this as far as the code goes whatever stands there; the sets are as they should be if they were before.
pub record Anew (terms n total more : ℕ) (row₀ work₀ : List ℕ) (half gap start end t : ℕ) (row work : List ℕ) (at : ℕ) : Type 0 where
  pub plan : Plan terms total more row₀ work₀ half gap start end
  pub count : t ≤ terms
  pub long_row : length row ≡ length row₀
  pub long_work : length work ≡ length work₀
  pub low : start ≤ at
  pub right : (sets : ℕ → List ℕ) → Standing terms sets row₀ work₀ → n < terms → total ≡ sizes terms sets + more → total ≤ half_of work₀
      → Laying start gap n more terms sets row₀ t row work at

pub anew-start : {terms n total more : ℕ} {row work : List ℕ} {half gap start end : ℕ} → Plan terms total more row work half gap start end
    → Anew terms n total more row work half gap start end 0 row work start
anew-start p = record {
  plan = p;
  count = omega arith;
  long_row = refl;
  long_work = refl;
  low = omega arith;
  right = λ sets x h e k. laying-start p x h e k;
}

module _ {terms n total more : ℕ} {row₀ work₀ : List ℕ} {half gap start end t : ℕ} {row work : List ℕ} {at : ℕ}
    (y : Anew terms n total more row₀ work₀ half gap start end t row work at) where
  pub anew-within : (start ≤ at) × (start ≤ end) × (end ≤ length work)
  anew-within = let w = plan-within y.plan in let e = y.plan.ends in let l = y.long_work in (y.low, omega arith, omega arith)

  pub anew-step : t < terms → {row' work' : List ℕ} {r room : ℕ} → Moved t start end at row work row' work' r → room ≡ gap + pick (eqb t n) more 0
      → Anew terms n total more row₀ work₀ half gap start end (t + 1) row' work' (r + room)
  anew-step l {r = r} {room} m a =
      let w = m.within in
      let next : r + room ≡ r + gap + pick (eqb t n) more 0 = omega arith in
      rw (add-one t) (record {
        plan = y.plan;
        count = l;
        long_row = m.long_row ∙ y.long_row;
        long_work = m.long_work ∙ y.long_work;
        low = omega arith;
        right = λ sets x h e k. laying-step y.plan x h e k (y.right sets x h e k) y.long_row y.long_work l m next;
      })

  pub anew-end : terms ≤ t → {row' : List ℕ} → row' ≡ with_part row terms (record { from = end; to = end })
      → RoomMade terms n total more row₀ work₀ row' work
  anew-end l w = record {
    long_row = ap length w ∙ length-with_part row terms (record { from = end; to = end }) ∙ y.long_row;
    long_work = y.long_work;
    right = λ sets x h e k. let c = y.count in laying-end y.plan x h e k (y.right sets x h e k) y.long_row y.long_work (omega arith) w;
  }
