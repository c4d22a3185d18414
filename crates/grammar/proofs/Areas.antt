-- What is printed in an area: the whole text where it fits, and nothing where it does not; any two results that meet the promise
-- are equal.
-- Assumes nothing.
use mathlib.Core.Path.{◌≡◌, refl, sym, ap, ◌∙◌}
use mathlib.Core.Bool.{Bool, true, false}
use Prim.Native.Nat.{ℕ, ◌≤◌, ◌<◌}
use native.Mathlib.Omega.{arith}
use native.Mathlib.Decide.{dec_lt}
use borrow.Author.Tests.{le-leb, lt-leb, leb-true, leb-false}
use lib.Dec.{leb}
use lib.ListN.{length}
use Rattle.std.specs.Prelude.{Option, None, Some, IsSome, unwrap_or}
use Rattle.std.proofs.lemmas.Option.{none-some, same_Some}
use Rattle.meaning.specs.Bytes.{Text}
use Rattle.meaning.proofs.Alike.{alike}
use Rattle.grammar.specs.Areas.{Written, WrittenOrNone, Printed, area_with, size_if_fits, size_in}

pub written→some : {s before after : Text} {r : ℕ} → length s ≤ length before → Written s before after r → WrittenOrNone s before after (Some r)
written→some {s} {before} h u =
    record {
      area = rw (le-leb (length s) (length before) h, area_with) u.area;
      size = rw (le-leb (length s) (length before) h, size_if_fits) (ap {B = Option ℕ} (λ n. Some n) u.size);
    }

pub short→none : {s before : Text} → length before < length s → WrittenOrNone s before before None
short→none {s} {before} h =
    record { area = rw (lt-leb (length s) (length before) h, area_with); size = rw (lt-leb (length s) (length before) h, size_if_fits) }

-- The same of what a test of the room answered.
pub test_fits : (m n : ℕ) {b : Bool} → b ≡ leb m n → b ≡ true → m ≤ n
test_fits m n e h = leb-true m n (sym e ∙ h)

pub test_short : (m n : ℕ) {b : Bool} → b ≡ leb m n → b ≡ false → n < m
test_short m n e h = leb-false m n (sym e ∙ h)

module _ {s before : Text} {b : Bool} (test : b ≡ leb (length s) (length before)) where
  pub fitting→some : {after : Text} {r : ℕ} → b ≡ true → Written s before after r → WrittenOrNone s before after (Some r)
  fitting→some h u = written→some (test_fits (length s) (length before) test h) u

  pub unfitting→none : b ≡ false → WrittenOrNone s before before None
  unfitting→none h = short→none (test_short (length s) (length before) test h)

-- What a caller reads of the promise: where the text fits, it is there and its length was answered; where None was answered, it does not fit
-- and the area is as it was.
pub fits-some : {s before after : Text} {o : Option ℕ} → length s ≤ length before → WrittenOrNone s before after o → o ≡ Some (length s)
fits-some {s} {before} h p = rw (le-leb (length s) (length before) h, size_if_fits) at p.size

pub some→written : {s before after : Text} {o : Option ℕ} {r : ℕ} → length s ≤ length before → WrittenOrNone s before after o → o ≡ Some r →
    Written s before after r
some→written {s} {before} {r = r} h p e =
    record { area = rw (le-leb (length s) (length before) h, area_with) at p.area; size = same_Some r (length s) (sym e ∙ fits-some h p) }

pub fits-is_some : {s before after : Text} {o : Option ℕ} → length s ≤ length before → WrittenOrNone s before after o → IsSome o
fits-is_some h p = rw (fits-some h p) refl

pub fits-not-none : {s before after : Text} {o : Option ℕ} → length s ≤ length before → WrittenOrNone s before after o → o ≡ None → ⊥
fits-not-none {s} h p e = none-some (length s) (sym e ∙ fits-some h p)

pub none→short : {s before after : Text} {o : Option ℕ} → WrittenOrNone s before after o → o ≡ None → (after ≡ before) × (length before < length s)
none→short {s} {before} p e =
    elim (dec_lt (length before) (length s)) [
      | yes h ↦ (rw (lt-leb (length s) (length before) h, area_with) at p.area, h)
      | no h ↦ absurd (fits-not-none (omega arith) p e)
    ]

pub written-or-none-unique : (s before after₁ after₂ : Text) (o₁ o₂ : Option ℕ) → WrittenOrNone s before after₁ o₁ → WrittenOrNone s before after₂ o₂ →
    (o₁ ≡ o₂) × (after₁ ≡ after₂)
written-or-none-unique s before after₁ after₂ o₁ o₂ p q = (alike p.size q.size, alike p.area q.area)

-- For C, 0 stands for None.
none-as-0 : {s before after : Text} {o : Option ℕ} → WrittenOrNone s before after o → unwrap_or o 0 ≡ size_in s before
none-as-0 {s} {before} p =
    elim (dec_lt (length before) (length s)) [
      | yes h ↦
          let none = rw (lt-leb (length s) (length before) h, size_if_fits) at p.size in
          rw (lt-leb (length s) (length before) h, size_in) (ap (λ (o : Option ℕ). unwrap_or o 0) none)
      | no h ↦ rw (le-leb (length s) (length before) (omega arith), size_in) (ap (λ (o : Option ℕ). unwrap_or o 0) (fits-some (omega arith) p))
    ]

pub written→printed : {s before after : Text} {o : Option ℕ} {r : ℕ} → WrittenOrNone s before after o → r ≡ unwrap_or o 0 → Printed s before after r
written→printed p e = record { area = p.area; size = e ∙ none-as-0 p }

-- What is read of the promise to C: the text is there, or the area is as it was; the answer is within the area.
pub printed→written : {s before after : Text} {r : ℕ} → length s ≤ length before → Printed s before after r → Written s before after r
printed→written {s} {before} h p =
    record {
      area = rw (le-leb (length s) (length before) h, area_with) at p.area;
      size = rw (le-leb (length s) (length before) h, size_in) at p.size;
    }

pub printed→short : {s before after : Text} {r : ℕ} → length before < length s → Printed s before after r → (after ≡ before) × (r ≡ 0)
printed→short {s} {before} h p =
    (rw (lt-leb (length s) (length before) h, area_with) at p.area, rw (lt-leb (length s) (length before) h, size_in) at p.size)

pub printed-within : (s before after : Text) (n : ℕ) → Printed s before after n → n ≤ length before
printed-within s before after n p =
    elim (dec_lt (length before) (length s)) [
      | yes h ↦ omega (arith, (printed→short h p).1)
      | no h ↦ omega (arith, (printed→written (omega arith) p).size)
    ]

-- (and so is what a writer answers)
pub some-within : (s before after : Text) (n : ℕ) → WrittenOrNone s before after (Some n) → n ≤ length before
some-within s before after n p = printed-within s before after n (written→printed p refl)

pub printed-unique : (s before after₁ after₂ : Text) (n₁ n₂ : ℕ) → Printed s before after₁ n₁ → Printed s before after₂ n₂ → (n₁ ≡ n₂) × (after₁ ≡ after₂)
printed-unique s before after₁ after₂ n₁ n₂ p q = (alike p.size q.size, alike p.area q.area)
