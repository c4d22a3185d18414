-- What is new in the bodies of equations, entered for the equations: the parts of the terms stay as they are, and the part of each
-- equation is that of its body.
-- Assumes nothing.
use mathlib.Core.Path.{◌≡◌, refl, sym, ap, subst, ◌∙◌}
use mathlib.Core.Logic.{◌↔◌}
use mathlib.Core.Bool.{Bool, true, false, not, ◌||◌}
use mathlib.Core.List.{List, [], ◌∷◌}
use Prim.Native.Nat.{ℕ, zero, suc, ◌+◌, ◌≤◌, ◌<◌}
use native.Mathlib.Numerals.{add-one}
use native.Mathlib.Omega.{arith}
use lib.Dec.{T}
use lib.ListN.{length, get_or, drop, drop_of_length-le}
use lib.Seq.{drop-cons}
use Rattle.parts.specs.declared.Part.{Part}
use Rattle.extents.specs.Extents.{part_at, with_part, is_empty}
use Rattle.extents.proofs.Rows.{part-set, part-other, length-with_part}
use Rattle.arrivals.specs.Arriving.{news_of}
use Rattle.courses.specs.Courses.{hand_on, some_new, HandedOn}

-- Bodies are terms, of which there are at most 96.
abbrev pub AllTerms : List ℕ → Type 0
AllTerms bodies = (e : ℕ) → e < length bodies → get_or bodies e 0 < 96

later : (b : ℕ) (bs : List ℕ) → AllTerms (b ∷ bs) → AllTerms bs
later b bs low e h = low (suc e) (omega arith)

pub handed-length : (first : ℕ) (bodies news : List ℕ) → length (hand_on first bodies news) ≡ length news
unfolding hand_on
handed-length first [] news = refl
handed-length first (b ∷ bs) news =
    handed-length (suc first) bs (with_part news (news_of first) (part_at news b)) ∙ length-with_part news (news_of first) (part_at news b)

-- A place that is none of those equations' stays.
handed-other : (first : ℕ) (bodies news : List ℕ) (t : ℕ) → ((e : ℕ) → first ≤ e → t ≡ news_of e → ⊥)
    → part_at (hand_on first bodies news) t ≡ part_at news t
unfolding hand_on
handed-other first [] news t other = refl
handed-other first (b ∷ bs) news t other =
    handed-other (suc first) bs (with_part news (news_of first) (part_at news b)) t (λ e h. other e (omega arith))
    ∙ part-other news (news_of first) t (part_at news b) (other first (omega arith))

pub handed-term : (first : ℕ) (bodies news : List ℕ) (t : ℕ) → t < 96 → part_at (hand_on first bodies news) t ≡ part_at news t
handed-term first bodies news t low = handed-other first bodies news t (λ e h k. omega arith)

-- what is read of a term once another equation is entered
entered-term : (first : ℕ) (news : List ℕ) (b t : ℕ) → t < 96 → part_at (with_part news (news_of first) (part_at news b)) t ≡ part_at news t
entered-term first news b t low = part-other news (news_of first) t (part_at news b) (λ k. omega arith)

handed-from : (first : ℕ) (bodies news : List ℕ) → first + length bodies ≤ 16 → AllTerms bodies → 224 ≤ length news → (e : ℕ) → e < length bodies
    → part_at (hand_on first bodies news) (news_of (first + e)) ≡ part_at news (get_or bodies e 0)
unfolding hand_on
handed-from first [] news few low long e h = absurd (omega arith)
handed-from first (b ∷ bs) news few low long zero h =
    let here : news_of (first + 0) ≡ news_of first = omega arith in
    let next = with_part news (news_of first) (part_at news b) in
    ap (part_at (hand_on (suc first) bs next)) here
    ∙ handed-other (suc first) bs next (news_of first) (λ e l k. omega arith)
    ∙ part-set news (news_of first) (part_at news b) (omega arith)
handed-from first (b ∷ bs) news few low long (suc e) h =
    let next = with_part news (news_of first) (part_at news b) in
    let there : news_of (first + suc e) ≡ news_of (suc first + e) = omega arith in
    ap (part_at (hand_on (suc first) bs next)) there
    ∙ handed-from (suc first) bs next (omega arith) (later b bs low) (rw (length-with_part news (news_of first) (part_at news b)) long) e (omega arith)
    ∙ entered-term first news b (get_or bs e 0) (low (suc e) h)

pub handed-part : (bodies news : List ℕ) → length bodies ≤ 16 → AllTerms bodies → 224 ≤ length news → (e : ℕ) → e < length bodies
    → part_at (hand_on 0 bodies news) (news_of e) ≡ part_at news (get_or bodies e 0)
handed-part bodies news few low long e h =
    let here : news_of e ≡ news_of (0 + e) = omega arith in
    ap (part_at (hand_on 0 bodies news)) here ∙ handed-from 0 bodies news (omega arith) low long e h

-- Whether there is anything: nothing is new in any body.
abbrev pub NoneNew : (bodies news : List ℕ) → Type 0
NoneNew bodies news = (e : ℕ) → e < length bodies → is_empty (part_at news (get_or bodies e 0)) ≡ true

or-false : (p q : Bool) → (p || q) ≡ false → (p ≡ false) × (q ≡ false)
or-false false q e = (refl, e)
or-false true q e = absurd (subst T e tt)

not-false : (p : Bool) → not p ≡ false → p ≡ true
not-false true e = refl
not-false false e = absurd (subst T e tt)

-- what is to come reads terms, which no equation that is entered changes
none-later : (first b : ℕ) (bs news : List ℕ) → AllTerms bs → (e : ℕ) → e < length bs
    → is_empty (part_at (with_part news (news_of first) (part_at news b)) (get_or bs e 0)) ≡ is_empty (part_at news (get_or bs e 0))
none-later first b bs news low e h = ap is_empty (entered-term first news b (get_or bs e 0) (low e h))

some-from : (first : ℕ) (bodies news : List ℕ) → AllTerms bodies → some_new first bodies news ≡ false → NoneNew bodies news
unfolding some_new
some-from first [] news low s e h = absurd (omega arith)
some-from first (b ∷ bs) news low s zero h = not-false (is_empty (part_at news b)) (or-false _ _ s).0
some-from first (b ∷ bs) news low s (suc e) h =
    let next = with_part news (news_of first) (part_at news b) in
    sym (none-later first b bs news (later b bs low) e (omega arith))
    ∙ some-from (suc first) bs next (later b bs low) (or-false (not (is_empty (part_at news b))) (some_new (suc first) bs next) s).1 e (omega arith)

none_from : (first : ℕ) (bodies news : List ℕ) → AllTerms bodies → NoneNew bodies news → some_new first bodies news ≡ false
unfolding some_new
none_from first [] news low q = refl
none_from first (b ∷ bs) news low q =
    let next = with_part news (news_of first) (part_at news b) in
    let more = none_from (suc first) bs next (later b bs low) (λ e h. none-later first b bs news (later b bs low) e h ∙ q (suc e) (omega arith)) in
    rw (q 0 (omega arith)) more

pub some-new : (bodies news : List ℕ) → AllTerms bodies → (some_new 0 bodies news ≡ false) ↔ NoneNew bodies news
some-new bodies news low = (some-from 0 bodies news low, none_from 0 bodies news low)

-- The loop over the equations: what is entered so far, with what is to come, is all.
pub record HandingOn (bodies news₀ news : List ℕ) (some : Bool) (e : ℕ) : Type 0 where
  pub row : hand_on e (drop e bodies) news ≡ hand_on 0 bodies news₀
  pub anything : (some || some_new e (drop e bodies) news) ≡ some_new 0 bodies news₀
  pub within : e ≤ length bodies
  pub long : length news ≡ length news₀

pub handing-start : (bodies news : List ℕ) → HandingOn bodies news news false 0
handing-start bodies news = record { row = refl; anything = refl; within = omega arith; long = refl }

or_assoc : (p q r : Bool) → (p || (q || r)) ≡ ((p || q) || r)
or_assoc true q r = refl
or_assoc false q r = refl

or-none : (p : Bool) → (p || false) ≡ p
or-none true = refl
or-none false = refl

or_some : (p : Bool) → (p || true) ≡ true
or_some true = refl
or_some false = refl

module _ {bodies news₀ news : List ℕ} {some : Bool} {e : ℕ} (x : HandingOn bodies news₀ news some e) where
  pub handing-end : length bodies ≤ e → HandedOn bodies news₀ news some
  unfolding hand_on some_new
  handing-end h =
      let none : drop e bodies ≡ [] = drop_of_length-le bodies {i = e} h in
      record {
        row = ap (λ (bs : List ℕ). hand_on e bs news) (sym none) ∙ x.row;
        some = sym (or-none some) ∙ ap (λ (bs : List ℕ). some || some_new e bs news) (sym none) ∙ x.anything;
      }

  module _ (h : e < length bodies) {p : Part} (read : p ≡ part_at news (get_or bodies e 0)) {news' : List ℕ} (written : news' ≡ with_part news (news_of e) p)
      {empty : Bool} (asked : empty ≡ is_empty p) where
    handing-next : {some' : Bool} → (some || not empty) ≡ some' → HandingOn bodies news₀ news' some' (e + 1)
    unfolding hand_on some_new
    handing-next {some'} s =
        let first = drop-cons bodies e 0 h in
        let rest = some_new (suc e) (drop (suc e) bodies) (with_part news (news_of e) (part_at news (get_or bodies e 0))) in
        record {
          row = rw (add-one e, written, read) (ap (λ (bs : List ℕ). hand_on e bs news) (sym first) ∙ x.row);
          anything =
              rw (add-one e, ← s, asked, written, read) (sym (or_assoc some (not (is_empty (part_at news (get_or bodies e 0)))) rest)
              ∙ ap (λ (bs : List ℕ). some || some_new e bs news) (sym first) ∙ x.anything);
          within = omega arith;
          long = ap length written ∙ length-with_part news (news_of e) p ∙ x.long;
        }

    pub handing-some : not empty ≡ true → {some' : Bool} → some' ≡ true → HandingOn bodies news₀ news' some' (e + 1)
    handing-some t s = handing-next (ap (λ (b : Bool). some || b) t ∙ or_some some ∙ sym s)

    pub handing-none : not empty ≡ false → {some' : Bool} → some' ≡ some → HandingOn bodies news₀ news' some' (e + 1)
    handing-none t s = handing-next (ap (λ (b : Bool). some || b) t ∙ or-none some ∙ sym s)
