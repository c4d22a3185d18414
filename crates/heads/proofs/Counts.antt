-- The tests of the three counts, as the code makes them.
-- Assumes nothing.
use mathlib.Core.Path.{◌≡◌, refl}
use mathlib.Core.Bool.{Bool, true, false}
use Prim.Native.Nat.{ℕ, suc}
use native.Mathlib.Omega.{arith}
use lib.Dec.{leb, ltb}
use borrow.Author.Tests.{lt-ltb, le-ltb, le-leb, leb-true, leb-false}
use Rattle.grammar.specs.Reading.{names_in_range, equations_in_range, terms_in_range}
use Rattle.keyed.specs.Numbers.{between}

at_most : (n m : ℕ) → ltb n (suc m) ≡ leb n m
at_most n m = cases (leb n m) refl
  where
    cases : (t : Bool) → leb n m ≡ t → ltb n (suc m) ≡ t
    cases true e = lt-ltb n (suc m) (omega (arith, leb-true n m e))
    cases false e = le-ltb n (suc m) (omega (arith, leb-false n m e))

pub names-test : (n : ℕ) → between 1 25 n ≡ names_in_range n
names-test n = rw (at_most n 24)

pub equations-test : (n : ℕ) → between 0 17 n ≡ equations_in_range n
equations-test n = rw (le-leb 0 n (omega arith), at_most n 16)

pub terms-test : (n : ℕ) → between 1 97 n ≡ terms_in_range n
terms-test n = rw (at_most n 96)
