-- One text behind another: what is written so far and what is to come make up the goal. Every writer's proof is a start, steps and
-- an end of these laws.
-- Assumes nothing.
use mathlib.Core.Path.{◌≡◌, refl, sym, ap, ◌∙◌}
use mathlib.Core.List.{[], ◌∷◌, ◌++◌, append_assoc, append-nil}
use Prim.Native.Nat.{ℕ, ◌+◌, ◌-◌, ◌≤◌, ◌<◌}
use native.Mathlib.Omega.{arith}
use native.Mathlib.Numerals.{add-one}
use lib.ListN.{length, take, drop, set, length-append, length-drop}
use borrow.Rule.Slice.PartMut.{put_mid, Post-is}
use lib.Seq.{take-length, take_all, drop-length, take-append_seam, drop-append_seam, drop-drop, drop-cons, set-append_seam}
use Rattle.meaning.specs.Bytes.{Text}
use Rattle.grammar.specs.Areas.{with_start, Written}

pub length-with_start : (s area : Text) → length s ≤ length area → length (with_start s area) ≡ length area
length-with_start s area h = simp (length-append, length-drop) (omega arith)

-- A text put behind another.
pub with_start-behind : (s t area : Text) → take (length s) (with_start s area) ++ with_start t (drop (length s) (with_start s area)) ≡ with_start (s ++ t) area
with_start-behind s t area = simp (take-append_seam, drop-append_seam, drop-drop, length-append, append_assoc)

-- A byte put behind a text.
pub byte-behind : (s area : Text) (b : ℕ) → length s < length area → set (with_start s area) (length s) b ≡ with_start (s ++ (b ∷ [])) area
byte-behind s area b h =
    rw (drop-cons area (length s) 0 h, set-append_seam)
    (simp (length-append, append_assoc, add-one))

-- The same of writers.
pub written-nil : (area : Text) → Written [] area area 0
written-nil area = record { area = refl; size = refl }

pub written-append : {s t before mid part : Text} {k r : ℕ} → Written s before mid k → Written t (drop k mid) part r →
    Written (s ++ t) before (take k mid ++ part) (k + r)
written-append {s} {t} {before} u v =
    record {
      area = rw (v.area, u.size, u.area) (with_start-behind s t before);
      size = rw (u.size, v.size) (sym (length-append s t));
    }

-- A text copied to the start of an area
pub copied→written : {s before after : Text} {r : ℕ} → r ≡ length s → after ≡ take (length s) s ++ drop (length s) before → Written s before after r
copied→written {s} n e = record { area = rw (take-length s) at e; size = n }

pub written_byte : {s before mid : Text} {k : ℕ} (b : ℕ) → Written s before mid k → k < length mid → Written (s ++ (b ∷ [])) before (set mid k b) (k + 1)
written_byte {s} {before} b u h =
    record {
      area = rw (u.size, u.area) (byte-behind s before b (omega (arith, u.size, simp (length-append, length-drop) at (ap length u.area))));
      size = rw u.size (sym (length-append s (b ∷ [])));
    }

-- The rest of an area from some place on, as it is lent, and the area when it is back.
abbrev pub lent : ℕ → Text → Text
lent k area = take (length area - k) (drop k area)

abbrev pub back : ℕ → Text → Text → Text
back k area part = put_mid k (length area - k) area part

lent_is : (k : ℕ) (area : Text) → lent k area ≡ drop k area
lent_is k area = take_all (length area - k) (drop k area) (omega (arith, length-drop k area))

back_is : (k : ℕ) (area part : Text) → k ≤ length area → back k area part ≡ take k area ++ part
back_is k area part h =
    ap (λ (s : Text). take k area ++ (part ++ s)) (Post-is k (length area) area h ∙ drop-length area)
    ∙ ap (λ (s : Text). take k area ++ s) (append-nil part)

-- A text that fits and is under way: what was written, and what is to come.
pub record Underway (goal todo before area : Text) (at : ℕ) : Type 0 where
  pub fits : length goal ≤ length before
  pub done : Text
  pub wrote : Written done before area at
  pub joined : done ++ todo ≡ goal

pub underway-first : {goal s todo before mid : Text} {k : ℕ} → s ++ todo ≡ goal → length goal ≤ length before → Written s before mid k →
    Underway goal todo before mid k
underway-first {s = s} e h u = record { fits = h; done = s; wrote = u; joined = e }

pub underway-start : {goal todo before : Text} → todo ≡ goal → length goal ≤ length before → Underway goal todo before before 0
underway-start {before = before} e h = underway-first e h (written-nil before)

pub underway-end : {goal before area : Text} {at : ℕ} → Underway goal [] before area at → Written goal before area at
underway-end u = let e = sym (append-nil u.done) ∙ u.joined in rw e at u.wrote

-- The area keeps its length, and what is to come fits behind what was written.
pub underway-kept : {goal todo before area : Text} {at : ℕ} → Underway goal todo before area at → length area ≡ length before
underway-kept {before = before} u =
    rw u.wrote.area (length-with_start u.done before (omega (arith, u.fits, simp length-append at (ap length u.joined))))

pub underway-room : {goal todo before area : Text} {at : ℕ} → Underway goal todo before area at → at + length todo ≤ length area
underway-room u = omega (arith, underway-kept u, u.fits, u.wrote.size, simp length-append at (ap length u.joined))

-- The next byte is stored.
pub underway-byte : {goal todo before mid : Text} {k : ℕ} {b : ℕ} → Underway goal (b ∷ todo) before mid k → Underway goal todo before (set mid k b) (k + 1)
underway-byte {todo = todo} {b = b} u =
    record {
      fits = u.fits;
      done = u.done ++ (b ∷ []);
      wrote = written_byte b u.wrote (omega (arith, underway-room u));
      joined = append_assoc u.done (b ∷ []) todo ∙ u.joined;
    }

-- The rest of the area is lent on, and is back with the next text at its start.
pub underway-step : {goal s todo before mid part : Text} {k r : ℕ} → Underway goal (s ++ todo) before mid k → Written s (lent k mid) part r →
    Underway goal todo before (back k mid part) (k + r)
underway-step {s = s} {todo = todo} {mid = mid} {part = part} {k = k} u v =
    record {
      fits = u.fits;
      done = u.done ++ s;
      wrote = rw (back_is k mid part (omega (arith, underway-room u))) (written-append u.wrote (rw (lent_is k mid) at v));
      joined = append_assoc u.done s todo ∙ u.joined;
    }

pub underway-last : {goal s before mid part : Text} {k r : ℕ} → Underway goal s before mid k → Written s (lent k mid) part r →
    Written goal before (back k mid part) (k + r)
underway-last {s = s} u v = underway-end (underway-step {s = s} {todo = []} (rw (← append-nil s) at u) v)

pub written-within : {goal before area : Text} {at : ℕ} → length goal ≤ length before → Written goal before area at → at ≤ length before
written-within h u = omega (arith, u.size)

pub written-length : {goal before area : Text} {at : ℕ} → length goal ≤ length before → Written goal before area at → length area ≡ length before
written-length {goal} {before} h u = rw u.area (length-with_start goal before h)

-- What is lent has room for what is to come.
pub lent-room : {goal todo before mid : Text} {k : ℕ} → Underway goal todo before mid k → length todo ≤ length (lent k mid)
lent-room {mid = mid} {k = k} u = rw (lent_is k mid, length-drop) (omega (arith, underway-room u))

pub next-room : (s todo : Text) {goal before mid : Text} {k : ℕ} → Underway goal (s ++ todo) before mid k → length s ≤ length (lent k mid)
next-room s todo u = omega (arith, lent-room u, length-append s todo)
