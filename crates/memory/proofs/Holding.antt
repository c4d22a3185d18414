-- What is kept covers a state, one test at a time, in the order in which the functions ask.
-- Assumes nothing.
use mathlib.Core.Path.{◌≡◌, refl}
use mathlib.Core.Bool.{Bool, true, false, ◌&&◌, ◌||◌}
use mathlib.Core.List.{List, [], ◌∷◌}
use Prim.Native.Nat.{ℕ, zero, suc, ◌+◌, ◌-◌, ◌*◌, ◌%◌, ◌≤◌, ◌<◌}
use native.Mathlib.Omega.{arith}
use borrow.Author.Tests.{lt-ltb, le-ltb, le-leb, lt-leb, eq-eqb, ne_eqb}
use lib.Dec.{ltb, eqb}
use lib.ListN.{length, get_or, set}
use Rattle.labels.specs.Bags.{bag, as_much}
use Rattle.rules.specs.Rules.{exchanges_before}
use Rattle.memory.specs.Memory.{slot_of, covers_in, reaches, place_at, holds_at, holds_from, known_in, remembered, ways}

-- the rules before a place, the last first
module _ (ls : List ℕ) (a b : ℕ) where
  pub covers-end : (i : ℕ) → i < 2 → true ≡ covers_in (exchanges_before ls i) a b
  unfolding covers_in exchanges_before
  covers-end zero h = refl
  covers-end (suc zero) h = refl
  covers-end (suc (suc i)) h = absurd (omega arith)

  pub covers-step : (i : ℕ) → 2 ≤ i
      → covers_in (exchanges_before ls i) a b ≡ (as_much (bag (get_or ls (i - 2) 0)) (bag a) (bag b) && covers_in (exchanges_before ls (i - 2)) a b)
  unfolding covers_in exchanges_before
  covers-step zero h = absurd (omega arith)
  covers-step (suc zero) h = absurd (omega arith)
  covers-step (suc (suc i)) h = let e : suc (suc i) - 2 ≡ i = omega arith in rw e

  pub covers-fails : (i : ℕ) → 2 ≤ i → false ≡ as_much (bag (get_or ls (i - 2) 0)) (bag a) (bag b) → false ≡ covers_in (exchanges_before ls i) a b
  covers-fails i h e = rw (covers-step i h, ← e)

  pub covers-on : (i : ℕ) → 2 ≤ i → true ≡ as_much (bag (get_or ls (i - 2) 0)) (bag a) (bag b)
      → covers_in (exchanges_before ls i) a b ≡ covers_in (exchanges_before ls (i - 2)) a b
  covers-on i h e = rw (covers-step i h, ← e)

-- the tests of one entry
module _ (memory ls : List ℕ) (entry before rest sum : ℕ) where
  abbrev place : ℕ
  place = place_at memory entry

  pub too_short : length memory ≤ 3 * entry + 2 → false ≡ holds_at memory ls entry before rest sum
  too_short h = rw (le-ltb (3 * entry + 2) (length memory) h)

  pub another : false ≡ eqb (get_or memory (3 * entry) 0) sum → false ≡ holds_at memory ls entry before rest sum
  another e = go (ltb (3 * entry + 2) (length memory))
    where
      go : (stands : Bool) → false ≡ (stands && (eqb (get_or memory (3 * entry) 0) sum
          && (reaches (place_at memory entry) before && covers_in (exchanges_before ls before) rest (get_or memory (3 * entry + 1) 0))))
      go true = rw (← e)
      go false = refl

  module _ (h : 3 * entry + 2 < length memory) (e : true ≡ eqb (get_or memory (3 * entry) 0) sum) where
    pub fewer-rules : place < before → false ≡ holds_at memory ls entry before rest sum
    fewer-rules l = rw (lt-ltb (3 * entry + 2) (length memory) h, ← e, lt-leb before place l)

    pub between-rules : before ≤ place → ((place - before) % 2 ≡ 0 → ⊥) → false ≡ holds_at memory ls entry before rest sum
    between-rules l n = rw (lt-ltb (3 * entry + 2) (length memory) h, ← e, le-leb before place l, ne_eqb ((place - before) % 2) 0 n)

    pub decided : before ≤ place → (place - before) % 2 ≡ 0
        → covers_in (exchanges_before ls before) rest (get_or memory (3 * entry + 1) 0) ≡ holds_at memory ls entry before rest sum
    decided l z = rw (lt-ltb (3 * entry + 2) (length memory) h, ← e, le-leb before place l, eq-eqb ((place - before) % 2) 0 z)

-- the entries of a slot, from a way on
module _ (memory ls : List ℕ) (first before rest sum : ℕ) where
  holds-step : (way : ℕ) → way < ways
      → holds_from (ways - way) memory ls (first + way) before rest sum
      ≡ (holds_at memory ls (first + way) before rest sum || holds_from (ways - (way + 1)) memory ls (first + (way + 1)) before rest sum)
  unfolding holds_from
  holds-step way h =
      let e : ways - way ≡ suc (ways - (way + 1)) = omega arith in
      let n : first + (way + 1) ≡ suc (first + way) = omega arith in
      rw (e, n)

  pub holds-here : (way : ℕ) → way < ways → true ≡ holds_at memory ls (first + way) before rest sum
      → true ≡ holds_from (ways - way) memory ls (first + way) before rest sum
  holds-here way h e = rw (holds-step way h, ← e)

  pub holds_later : (way : ℕ) → way < ways → false ≡ holds_at memory ls (first + way) before rest sum
      → holds_from (ways - way) memory ls (first + way) before rest sum
      ≡ holds_from (ways - (way + 1)) memory ls (first + (way + 1)) before rest sum
  holds_later way h e = rw (holds-step way h, ← e)

  pub holds-nowhere : (way : ℕ) → ways ≤ way → false ≡ holds_from (ways - way) memory ls (first + way) before rest sum
  unfolding holds_from
  holds-nowhere way h = let e : ways - way ≡ 0 = omega arith in rw e

-- no state has the empty label, and for another one its slot decides
pub none-known : (memory ls : List ℕ) (before rest sum : ℕ) → true ≡ eqb sum 0 → false ≡ known_in memory ls before rest sum
none-known memory ls before rest sum e = rw (← e)

pub by-slot : (memory ls : List ℕ) (s before rest sum : ℕ) → false ≡ eqb sum 0 → s ≡ slot_of sum
    → known_in memory ls before rest sum ≡ holds_from ways memory ls (ways * s + 0) before rest sum
by-slot memory ls s before rest sum e z = let n : ways * s + 0 ≡ ways * s = omega arith in rw (← e, n, z)

-- the labels of an entry, written one after the other
pub written : (m m₁ m₂ m₃ : List ℕ) (n s v before rest sum : ℕ) → n ≡ slot_of rest → s ≡ slot_of sum → v ≡ before
    → m₁ ≡ set m (3 * (ways * s + n % ways)) sum → m₂ ≡ set m₁ (3 * (ways * s + n % ways) + 1) rest → m₃ ≡ set m₂ (3 * (ways * s + n % ways) + 2) v
    → m₃ ≡ remembered m before rest sum
written m m₁ m₂ m₃ n s v before rest sum en es ev e₁ e₂ e₃ = rw (e₃, e₂, e₁, en, es, ev)

-- there is no place for them in an empty memory
pub nowhere-written : (m : List ℕ) (before rest sum : ℕ) → length m ≡ 0 → m ≡ remembered m before rest sum
nowhere-written [] before rest sum h = refl
nowhere-written (l ∷ m) before rest sum h = absurd (omega arith)
