-- Faults joined: of two the smaller number stays, and of one number the first.
-- Assumes nothing.
use mathlib.Core.Path.{◌≡◌, refl, sym, subst}
use mathlib.Core.Bool.{Bool, true, false, not}
use Prim.Native.Nat.{ℕ, ◌≤◌, ◌<◌}
use native.Mathlib.Omega.{arith}
use lib.Dec.{leb, ltb}
use borrow.Author.Tests.{ltb-true, ltb-false, leb-true, leb-false, le-leb, lt-leb}
use Rattle.meaning.specs.Answers.{Fault, amount, fault_number}
use Rattle.grammar.specs.Faults.{Found, fine, fault, worse, unless}
use Rattle.grammar.proofs.Findings.{IsFine, fine-worse}

pub worse-fine : (a : Found) → worse a fine ≡ a
worse-fine fine = refl
worse-fine (fault x p) = refl

-- no fault in a join is none in its parts
pub worse-none : (a b : Found) → worse a b ≡ fine → (a ≡ fine) × (b ≡ fine)
worse-none a b e = let p = (fine-worse a b).0 (subst IsFine (sym e) tt) in (none a p.0, none b p.1)
  where
    none : (f : Found) → IsFine f → f ≡ fine
    none fine i = refl
    none (fault x from) i = absurd i

pub unless-none : (b : Bool) (x : Fault) (from : ℕ) → unless b x from ≡ fine → b ≡ true
unless-none true x from e = refl
unless-none false x from e = absurd (subst IsFine (sym e) tt)

-- by the numbers of two faults
module _ (x y : Fault) (p q : ℕ) where
  pub worse-first : fault_number x ≤ fault_number y → worse (fault x p) (fault y q) ≡ fault x p
  worse-first h = rw (le-leb (fault_number x) (fault_number y) h)

  pub worse-second : fault_number y < fault_number x → worse (fault x p) (fault y q) ≡ fault y q
  worse-second h = rw (lt-leb (fault_number x) (fault_number y) h)

pub worse-assoc : (a b c : Found) → worse (worse a b) c ≡ worse a (worse b c)
worse-assoc fine b c = refl
worse-assoc (fault x p) fine c = refl
worse-assoc (fault x p) (fault y q) fine = worse-fine (worse (fault x p) (fault y q))
worse-assoc (fault x p) (fault y q) (fault z r) = cases (leb (fault_number x) (fault_number y)) refl (leb (fault_number y) (fault_number z)) refl
  where
    cases : (t : Bool) → leb (fault_number x) (fault_number y) ≡ t → (u : Bool) → leb (fault_number y) (fault_number z) ≡ u
        → worse (worse (fault x p) (fault y q)) (fault z r) ≡ worse (fault x p) (worse (fault y q) (fault z r))
    cases true e true f =
        let h = leb-true (fault_number x) (fault_number y) e in
        let k = leb-true (fault_number y) (fault_number z) f in
        rw (e, f, le-leb (fault_number x) (fault_number z) (omega arith), e)
    cases true e false f = rw (e, f)
    cases false e true f = rw (e, f, e)
    cases false e false f =
        let h = leb-false (fault_number x) (fault_number y) e in
        let k = leb-false (fault_number y) (fault_number z) f in
        rw (e, f, lt-leb (fault_number x) (fault_number z) (omega arith))

-- what does not come before another is no less
pub not-below : (key floor : ℕ) → not (ltb key floor) ≡ leb floor key
not-below key floor = cases (ltb key floor) refl
  where
    cases : (t : Bool) → ltb key floor ≡ t → not t ≡ leb floor key
    cases true e = sym (lt-leb floor key (ltb-true key floor e))
    cases false e = sym (le-leb floor key (ltb-false key floor e))

-- one of two tests that fails is enough
pub first-fails : (b : Bool) (p : ℕ) → fault amount p ≡ worse (unless false amount p) (unless b amount p)
first-fails true p = refl
first-fails false p = refl

pub second-fails : (b : Bool) (p : ℕ) → fault amount p ≡ worse (unless b amount p) (unless false amount p)
second-fails true p = refl
second-fails false p = refl
