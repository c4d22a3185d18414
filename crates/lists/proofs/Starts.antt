-- Where the search for a name may begin, by its letter: from the last name down, each name is where its letter starts.
-- Assumes nothing.
use mathlib.Core.Path.{◌≡◌, refl, sym, ap, ◌∙◌}
use mathlib.Core.Bool.{Bool, true, false}
use mathlib.Core.List.{List, map}
use Prim.Native.Nat.{ℕ, ◌+◌, ◌%◌, ◌<◌, ◌^◌}
use native.Mathlib.Omega.{arith}
use lib.Dec.{eqb}
use lib.ListN.{length, get_or, set, replicate, get_or-replicate}
use lib.Seq.{get_or-set_same, get_or-set_other}
use borrow.Author.Tests.{eqb-true, eqb-false}
use Rattle.table.specs.Decoded.{name_of}
use Rattle.grammar.specs.Faults.{name_number}
use Rattle.words.specs.Searches.{number_from}
use Rattle.words.proofs.Looked.{number-later}
use Rattle.lists.specs.Starts.{StartingAt, Starting}

-- one place for all letters
pub starts-alike : (names : List ℕ) (place : ℕ) → StartingAt names (replicate 32 place) place
starts-alike names place w h = ap (λ s. number_from names s w) (get_or-replicate 32 (w % 32) place 0 (omega arith))

-- one name before them
pub starts_more : (names starts : List ℕ) (i : ℕ) → length starts ≡ 32 → i < length names → get_or names i 0 < 2 ^ 64 → StartingAt names starts (i + 1)
    → StartingAt names (set starts (get_or names i 0 % 32) i) i
starts_more names starts i size within small s w h = cases (eqb (get_or names i 0 % 32) (w % 32)) refl
  where
    first : ℕ
    first = get_or names i 0 % 32

    cases : (t : Bool) → eqb first (w % 32) ≡ t → number_from names (get_or (set starts first i) (w % 32) 0) w ≡ number_from names i w
    cases true e =
        rw (← eqb-true first (w % 32) e) (ap (λ p. number_from names p w) (get_or-set_same starts first i 0 (omega arith)))
    cases false e =
        ap (λ p. number_from names p w) (get_or-set_other starts first (w % 32) i 0 (λ same. eqb-false first (w % 32) e (sym same)))
        ∙ s w h
        ∙ number-later names i w within small h (λ same. eqb-false first (w % 32) e (ap (λ v. v % 32) same))

-- the number that is found from there on is the name's
pub start-found : (names starts : List ℕ) (w : ℕ) {letter start n : ℕ} → Starting names starts → (letter ≡ w % 32) × (w < 2 ^ 64)
    → start ≡ get_or starts letter 0
    → n ≡ number_from names start w
    → n ≡ name_number (map (name_of 8) names) (name_of 8 w)
start-found names starts w s l e f =
    let place = e ∙ ap (λ k. get_or starts k 0) l.0 in
    let h = f ∙ ap (λ k. number_from names k w) place ∙ s w l.1 in
    omega arith
