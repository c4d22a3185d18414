-- A round that is done: it passes no limit, its sets stand, it is stable exactly if nothing is new in the bodies, and what is handed
-- on makes it what the next round begins with.
-- Assumes nothing.
use mathlib.Core.Path.{◌≡◌, refl, sym, ap, subst, ◌∙◌}
use mathlib.Core.Logic.{◌⊎◌, inl, inr}
use mathlib.Core.Bool.{Bool, true, false}
use mathlib.Core.List.{List, [], ◌∷◌, map}
use Prim.Native.Nat.{ℕ, suc, ◌≤◌, ◌<◌}
use native.Mathlib.Nat.{not-suc-le-zero}
use native.Mathlib.Omega.{arith}
use borrow.Author.Tests.{le-leb}
use lib.Dec.{T, ltb, ltb→lt}
use lib.ListN.{length, get_or}
use Rattle.meaning.specs.Labels.{Label, number}
use Rattle.meaning.specs.Sets.{at}
use Rattle.meaning.specs.Descriptions.{Description, names, term_count, equations, body_at}
use Rattle.meaning.specs.Rounds.{round_sets}
use Rattle.meaning.specs.Limits.{total, some_long, some_over, over}
use Rattle.meaning.proofs.Tests.{or_cases, or_left}
use Rattle.meaning.proofs.Members.{each_of, in-at}
use Rattle.meaning.proofs.Growth.{round-length}
use Rattle.meaning.proofs.Stability.{Stable}
use Rattle.meaning.proofs.Limits.{some_long→long, over-cases}
use Rattle.table.proofs.Holdings.{body_of}
use Rattle.parts.specs.declared.Part.{Part}
use Rattle.extents.specs.Extents.{part_at, words_in, is_empty}
use Rattle.extents.proofs.Rows.{words-length, words-empty}
use Rattle.layout.specs.Layout.{Standing}
use Rattle.deltas.specs.Deltas.{arrived, over_in, labels_in}
use Rattle.deltas.proofs.Counting.{mixed-all, mixed-next, labels-end}
use Rattle.deltas.proofs.Staying.{quiet-stable, stable-quiet}
use Rattle.deltas.proofs.Passing.{few-together}
use Rattle.advances.specs.Advances.{Logged, Small, Midway}
use Rattle.courses.specs.Courses.{HandedOn}
use Rattle.courses.proofs.Handing.{AllTerms, handed-length, handed-part, some-new}

-- Sets that are each small, with no more labels together than there may be, pass no limit.
none_over : (names : ℕ) (sets : List (List Label)) → ((t : ℕ) → t < length sets → Small names (at sets t)) → T (some_over sets) → ⊥
unfolding some_over
none_over names [] h x = x
none_over names (s ∷ sets) h x = found (over-cases s sets x) (h 0 (omega arith)) (none_over names sets (λ t l. h (suc t) (omega arith)))
  where
    found : T (some_long s) ⊎ ((1024 < length s) ⊎ T (some_over sets)) → Small names s → (T (some_over sets) → ⊥) → ⊥
    found (inl l) small more = let y = some_long→long s l in let p = small.packs y.label y.there in omega arith
    found (inr (inl l)) small more = omega arith
    found (inr (inr l)) small more = more l

pub small-few : (most names : ℕ) (sets : List (List Label)) → ((t : ℕ) → t < length sets → Small names (at sets t)) → total sets ≤ most
    → T (over_in most sets) → ⊥
small-few most names sets h few x = elim (or_cases (some_over sets) (ltb most (total sets)) x) [
  | inl l ↦ none_over names sets h l
  | inr l ↦ let k = ltb→lt most (total sets) l in omega arith
]

-- What passes no limit where fewer labels fit passes none where 2,048 do.
pub few-over : (most : ℕ) (sets : List (List Label)) → most ≤ 2048 → (T (over_in most sets) → ⊥) → T (over sets) → ⊥
unfolding over
few-over most sets h few x = elim (or_cases (some_over sets) (ltb 2048 (total sets)) x) [
  | inl l ↦ few (or_left (some_over sets) (ltb most (total sets)) l)
  | inr l ↦ let k = ltb→lt 2048 (total sets) l in let t = few-together most sets few in omega arith
]

map-none : {A B : Type 0} (f : A → B) (s : List A) → map f s ≡ [] → s ≡ []
map-none f [] e = refl
map-none f (a ∷ s) e = absurd (let n = ap length e in omega arith)

module _ {log : List ℕ} {end : ℕ} {p : Part} {labels : List Label} (x : Logged log end p labels) (within : end ≤ length log) where
  pub logged_none : is_empty p ≡ true → labels ≡ []
  logged_none e = map-none number labels (sym x.words ∙ words-empty p log e)

  pub none-logged : labels ≡ [] → is_empty p ≡ true
  none-logged e =
      let size = words-length p log in
      let none : length (words_in p log) ≡ 0 = ap length (x.words ∙ ap (map number) e) in
      le-leb p.to p.from (omega (arith, x.before))

module _ {d : Description} {k : ℕ} {sets news work log out : List ℕ} {end : ℕ} (m : Midway d k (term_count d) sets news work log out end) where
  pub ended-few : T (over_in (length log) (round_sets d (suc k))) → ⊥
  ended-few =
      small-few (length log) (names d) (round_sets d (suc k)) (λ t h. m.small t (omega (arith, round-length d (suc k))))
      (omega (arith, m.counted, m.within, labels-end d k))

  pub ended-stands : Standing (term_count d) (λ t. map number (at (round_sets d (suc k)) t)) sets work
  ended-stands =
      let x = m.stands in record {
        long = x.long;
        here = λ t h. x.here t h ∙ ap (map number) (mixed-all d k t);
        upright = x.upright;
        apart = x.apart;
        half = x.half;
      }

  bodies-few : equations d ≤ 16
  bodies-few = m.legal.equation_count

  body_below : (e : ℕ) → e < equations d → get_or d.bodies e 0 < term_count d
  body_below e h = each_of (λ (b : ℕ). b < term_count d) d.bodies m.legal.bodies (get_or d.bodies e 0) (in-at d.bodies e 0 h)

  bodies-low : AllTerms d.bodies
  bodies-low e h = let b = body_below e h in omega (arith, m.legal.terms_count)

  -- what is new in a body stands in the log
  body-logged : (e : ℕ) → e < equations d → Logged log end (part_at news (get_or d.bodies e 0)) (arrived d (suc k) (body_at d e))
  body-logged e h =
      subst (λ (b : ℕ). Logged log end (part_at news (get_or d.bodies e 0)) (arrived d (suc k) b)) (body_of d e h)
      (m.fresh (get_or d.bodies e 0) (body_below e h))

  module _ {news' : List ℕ} where
    pub handed-stable : HandedOn d.bodies news news' false → Stable d k
    handed-stable x =
        let none = (some-new d.bodies news bodies-low).0 (sym x.some) in
        quiet-stable d k (λ e h. logged_none (body-logged e h) m.within (none e h))

    pub handed-unstable : HandedOn d.bodies news news' true → Stable d k → ⊥
    handed-unstable x s =
        let none = (some-new d.bodies news bodies-low).1 (λ e h. none-logged (body-logged e h) m.within (stable-quiet d k s e)) in
        subst (λ (b : Bool). T b) (x.some ∙ none) tt

    -- What is handed on is new for the refs of the next round.
    pub next-begins : {r : Bool} → HandedOn d.bodies news news' r → Midway d (suc k) 0 sets news' work log out end
    next-begins x = rw x.row (record {
      legal = m.legal;
      joins = m.joins;
      stands = subst (λ (f : ℕ → List Label). Standing (term_count d) (λ t. map number (f t)) sets work) (mixed-next d k) m.stands;
      counted = m.counted ∙ ap (labels_in (term_count d)) (mixed-next d k);
      within = m.within;
      halves = m.halves;
      room = m.room;
      rows = omega (arith, m.rows, handed-length 0 d.bodies news);
      fresh = λ t h. absurd (not-suc-le-zero h);
      refs = λ e h. rw (handed-part d.bodies news bodies-few bodies-low m.rows e h) (body-logged e h);
      few = ended-few;
      small = λ t h. absurd (not-suc-le-zero h);
    })
