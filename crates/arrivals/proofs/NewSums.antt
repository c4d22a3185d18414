-- What the new labels of two sets give, one step after another in one set that stands at the start of words of its own.
-- Assumes nothing.
use Rattle.std.specs.Prelude.{Result, Ok, Err}
use mathlib.Core.Path.{◌≡◌, refl, ap}
use mathlib.Core.Bool.{Bool, true, false}
use mathlib.Core.List.{List}
use Prim.Native.Nat.{ℕ, ◌-◌, ◌≤◌}
use native.Mathlib.Omega.{arith}
use borrow.Author.Tests.{eq-eqb, ne_eqb}
use lib.Dec.{eqb}
use lib.ListN.{length}
use Rattle.parts.specs.Parts.{set_at, most_labels, room_at}
use Rattle.sets.specs.declared.TooLarge.{TooLarge}
use Rattle.sets.specs.Building.{Building, done, goes_on, and_then, GrownAt}
use Rattle.sets.proofs.Steps.{Steady, steady-done, steady-next, steady-fits, going-last, grown-as, first-large, first_holds}
use Rattle.extents.specs.Extents.{at_start}
use Rattle.sums.specs.Sums.{sums_of}
use Rattle.sums.proofs.SumLaws.{steady-sums_of}
use Rattle.merging.specs.Joining.{in_one}
use Rattle.merging.proofs.UnionLaws.{cut_fits}
use Rattle.arrivals.specs.Arriving.{unless_all, sums_new, union_new, two_new}

-- A second step by the words that the first left.
then-last : (len n : ℕ) (first second : ℕ → List ℕ → Building) (before now : List ℕ) {r : Result ℕ TooLarge} {after : List ℕ}
    → length (first (room_at 0 most_labels (length before)) (set_at 0 len before)).set ≤ length before - 0
    → ((room : ℕ) → Steady room (second room))
    → GrownAt (at_start len) first before now (Ok n)
    → GrownAt (at_start n) second now after r
    → GrownAt (at_start len) (λ room s. and_then (first room s) (second room)) before after r
then-last len n first second before now fits steady x y =
    let room = room_at 0 most_labels (length before) in
    let p = going-last most_labels second steady (first_holds 0 len (first room) (second room) before now n fits x) y in
    record { answer = p.0; words = p.1 }

-- nothing after it
pub next-done : (b : Building) → b ≡ and_then b done
next-done b = go b.whole refl
  where
    go : (t : Bool) → b.whole ≡ t → b ≡ goes_on t b done
    go true e = ap (λ (t : Bool). record { set = b.set; whole = t }) e
    go false e = refl

module _ (newA a new_b b : List ℕ) where
  abbrev rest : ℕ → List ℕ → Building
  rest room = unless_all (eqb (length newA) (length a)) (sums_of room new_b a)

  steady-unless : (room : ℕ) (all : Bool) → Steady room (unless_all all (sums_of room new_b a))
  steady-unless room true = steady-done room
  steady-unless room false = steady-sums_of room new_b a

  pub steady-sums_new : (room : ℕ) → Steady room (sums_new room newA a new_b b)
  steady-sums_new room =
      steady-next room (sums_of room newA b) (rest room) (steady-sums_of room newA b) (steady-unless room (eqb (length newA) (length a)))

  -- Every sum with a new label: those of the first set, and then those of the second, unless there is none that is missing.
  module _ (len : ℕ) (before now : List ℕ) where
    abbrev pub Sums : ℕ → List ℕ → List ℕ → List ℕ → List ℕ → Result ℕ TooLarge → Type 0
    Sums at s t from to r = GrownAt (at_start at) (λ room. sums_of room s t) from to r

    abbrev pub NewSums : List ℕ → Result ℕ TooLarge → Type 0
    NewSums after r = GrownAt (at_start len) (λ room. sums_new room newA a new_b b) before after r

    pub sums-all : {r : Result ℕ TooLarge} → length newA ≡ length a → Sums len newA b before now r → NewSums now r
    sums-all e x = grown-as (λ s. rw (eq-eqb (length newA) (length a) e) (next-done (sums_of _ newA b s))) x

    pub sums-large : Sums len newA b before now (Err (record {})) → NewSums now (Err (record {}))
    sums-large x = first-large 0 len _ (rest (room_at 0 most_labels (length before))) before now x

    pub sums-last : {n : ℕ} {r : Result ℕ TooLarge} {after : List ℕ} → (length newA ≡ length a → ⊥) → Sums len newA b before now (Ok n)
        → Sums n new_b a now after r → NewSums after r
    sums-last {n} other x y =
        grown-as (λ s. rw (ne_eqb (length newA) (length a) other))
        (then-last len n (λ room. sums_of room newA b) (λ room. sums_of room new_b a) before now
        (steady-fits 0 len most_labels _ before (steady-sums_of _ newA b)) (λ room. steady-sums_of room new_b a) x y)

  -- The new labels of both sets, and then the sums.
  module _ (before now : List ℕ) where
    abbrev pub Union : Result ℕ TooLarge → Type 0
    Union r = GrownAt (at_start 0) (λ room. union_new room newA new_b) before now r

    abbrev pub New : (sums : Bool) → List ℕ → Result ℕ TooLarge → Type 0
    New sums after r = GrownAt (at_start 0) (λ room. two_new sums room newA a new_b b) before after r

    pub two-large : (sums : Bool) → Union (Err (record {})) → New sums now (Err (record {}))
    two-large true x = first-large 0 0 _ (sums_new (room_at 0 most_labels (length before)) newA a new_b b) before now x
    two-large false x = x

    pub two-last : {n : ℕ} {r : Result ℕ TooLarge} {after : List ℕ} → Union (Ok n)
        → GrownAt (at_start n) (λ room. sums_new room newA a new_b b) now after r → New true after r
    two-last {n} x y =
        then-last 0 n (λ room. union_new room newA new_b) (λ room. sums_new room newA a new_b b) before now
        (let h = cut_fits (room_at 0 most_labels (length before)) (in_one newA new_b) in omega arith) steady-sums_new x y
