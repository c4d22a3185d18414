-- A text behind the first bytes of an area, which stay: they count as written.
-- Assumes nothing.
use mathlib.Core.Path.{◌≡◌, refl, sym, ◌∙◌}
use mathlib.Core.List.{[], ◌++◌, append_assoc, append-nil}
use Prim.Native.Nat.{ℕ, ◌+◌, ◌≤◌}
use native.Mathlib.Omega.{arith}
use lib.ListN.{length, take, length-append, take-append-drop}
use lib.Seq.{length-take-le, take-append_seam, drop-append-add, drop-drop}
use Rattle.meaning.specs.Bytes.{Text}
use Rattle.grammar.specs.Areas.{Written}
use Rattle.grammar.proofs.Underway.{Underway, underway-first, underway-end, underway-room}

-- What was written can be taken from the area.
pub taken_back : {s before area : Text} {n : ℕ} → Written s before area n → take n area ≡ s
taken_back w = rw (w.size, w.area) (take-append_seam _ _)

pub behind-start : (s before : Text) (at : ℕ) → at + length s ≤ length before → Underway (take at before ++ s) s before before at
behind-start s before at h =
    let kept : length (take at before) ≡ at = length-take-le at before (omega arith) in
    underway-first {s = take at before} refl (omega (arith, length-append (take at before) s))
    (record { area = rw kept (sym (take-append-drop at before)); size = sym kept })

pub behind-room : (s todo : Text) {goal before mid : Text} {k : ℕ} → Underway goal (s ++ todo) before mid k → k + length s ≤ length mid
behind-room s todo u = omega (arith, underway-room u, length-append s todo)

pub behind-step : (s todo : Text) {goal before mid after : Text} {k r : ℕ} → Underway goal (s ++ todo) before mid k →
    Written (take k mid ++ s) mid after r → Underway goal todo before after r
behind-step s todo u w =
    let done = u.done in
    let wrote = rw (taken_back u.wrote) at w in
    record {
      fits = u.fits;
      done = done ++ s;
      wrote = record {
        area = rw (wrote.area, u.wrote.area) (simp (length-append, drop-append-add, drop-drop));
        size = wrote.size;
      };
      joined = append_assoc done s todo ∙ u.joined;
    }

pub behind-last : (s : Text) {goal before mid after : Text} {k r : ℕ} → Underway goal s before mid k → Written (take k mid ++ s) mid after r →
    Written goal before after r
behind-last s u w = underway-end (behind-step s [] (rw (← append-nil s) at u) w)
