-- A line has no fault exactly when none of its parts has one.
-- Assumes nothing.
use mathlib.Core.Logic.Iff
use mathlib.Core.Logic.{◌↔◌}
use mathlib.Core.Bool.{Bool, true, false}
use Prim.Native.Nat.{ℕ, ◌≤◌, ◌<◌}
use lib.Dec.{T, leb, ltb, leb→le, le→leb, ltb→lt, lt→ltb}
use Rattle.meaning.specs.Answers.{Fault, fault_number}
use Rattle.grammar.specs.Faults.{Found, fine, fault, smaller, worse, unless}

abbrev pub IsFine : Found → Type 0
IsFine fine = Unit {0}
IsFine (fault x from) = ⊥

smaller-faulty : (b : Bool) (x y : Fault) (p q : ℕ) → IsFine (smaller b (fault x p) (fault y q)) → ⊥
smaller-faulty true x y p q h = h
smaller-faulty false x y p q h = h

pub fine-worse : (f g : Found) → IsFine (worse f g) ↔ (IsFine f × IsFine g)
fine-worse fine g = (λ h. (tt, h), λ h. h.1)
fine-worse (fault x p) fine = (λ h. absurd h, λ h. h.0)
fine-worse (fault x p) (fault y q) = (λ h. absurd (smaller-faulty (leb (fault_number x) (fault_number y)) x y p q h), λ h. absurd h.0)

pub fine-unless : (b : Bool) (x : Fault) (from : ℕ) → IsFine (unless b x from) ↔ T b
fine-unless true x from = Iff.rfl
fine-unless false x from = Iff.rfl

pub fine-least : (m n : ℕ) (x : Fault) (from : ℕ) → IsFine (unless (leb m n) x from) ↔ (m ≤ n)
fine-least m n x from = simp fine-unless (leb→le m n, le→leb m n)

pub fine-below : (m n : ℕ) (x : Fault) (from : ℕ) → IsFine (unless (ltb m n) x from) ↔ (m < n)
fine-below m n x from = simp fine-unless (ltb→lt m n, lt→ltb m n)
