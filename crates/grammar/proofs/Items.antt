-- A list has no fault exactly when no entry has one of its own, the entries ascend, and they count no more than the limit.
-- Assumes nothing.
use mathlib.Core.Path.{◌≡◌}
use mathlib.Core.Logic.Iff
use mathlib.Core.Logic.{◌↔◌}
use mathlib.Core.List.{List, [], ◌∷◌, map}
use Prim.Native.Nat.{ℕ, zero, suc, ◌+◌, ◌*◌, ◌≤◌, zero-le}
use native.Mathlib.Nat.{mul-suc}
use native.Mathlib.Omega.{arith}
use lib.ListN.{length}
use Rattle.meaning.specs.Sets.{Above, Rising}
use Rattle.meaning.specs.Legal.{Each}
use Rattle.grammar.specs.Faults.{Found, Item, items_from, items_fault}
use Rattle.grammar.proofs.Findings.{IsFine, fine-worse, fine-least}

-- What entries count together.
unfoldable pub weigh : {A : Type 0} → (A → ℕ) → List A → ℕ
weigh f [] = 0
weigh f (x ∷ xs) = f x + weigh f xs

pub weigh-alike : {A : Type 0} (n : ℕ) (xs : List A) → weigh (λ _. n) xs ≡ n * length xs
unfolding weigh
weigh-alike n [] = omega arith
weigh-alike n (x ∷ xs) = rw (mul-suc, weigh-alike n xs) (omega arith)

-- Numbers of which the first is at least so much.
abbrev Least : ℕ → List ℕ → Type 0
Least zero ks = Unit {0}
Least (suc n) ks = Above n ks

least-says : (floor k : ℕ) (ks : List ℕ) → (floor ≤ k) ↔ Least floor (k ∷ ks)
least-says zero k ks = (λ _. tt, λ _. zero-le)
least-says (suc n) k ks = Iff.rfl

module _ {X Y : Type 0} (says : X → Y) (own : X → Found) (from : X → ℕ) (key weight : Y → ℕ) (limit : ℕ) where
  abbrev pub item : X → Item
  item x = record { own = own x; key = key (says x); weight = weight (says x); from = from x }

  from-says : (floor total : ℕ) (xs : List X) → total ≤ limit → IsFine (items_from limit floor total (map item xs))
      ↔ (Each (λ x. IsFine (own x)) xs × Least floor (map key (map says xs)) × Rising (map key (map says xs)) × (total + weigh weight (map says xs) ≤ limit))
  unfolding items_from weigh
  from-says zero total [] n = (λ f. (tt, tt, tt, omega arith), λ h. tt)
  from-says (suc floor) total [] n = (λ f. (tt, tt, tt, omega arith), λ h. tt)
  from-says floor total (x ∷ xs) n =
      let k = key (says x) in
      let next = total + weight (says x) in
      let first = least-says floor k (map key (map says xs)) in (
        λ f.
            let a = simp (fine-worse, fine-least) at f in
            let i = (from-says (suc k) next xs a.0.1.1).0 a.1 in
            ((a.0.0, i.0), first.0 a.0.1.0, (i.1, i.2), omega (arith, i.3)),
        λ h.
            let n : next ≤ limit = omega (arith, h.3) in
            simp (fine-worse, fine-least) ((h.0.0, (first.1 h.1, n)), (from-says (suc k) next xs n).1 (h.0.1, h.2.0, h.2.1, omega (arith, h.3))),
      )

  pub items-say : (xs : List X) → IsFine (items_fault limit (map item xs))
      ↔ (Each (λ x. IsFine (own x)) xs × Rising (map key (map says xs)) × (weigh weight (map says xs) ≤ limit))
  unfolding items_fault
  items-say xs =
      let i = from-says 0 0 xs zero-le in
      (λ f. let h = i.0 f in (h.0, h.2, omega (arith, h.3)), λ h. i.1 (h.0, tt, h.1, omega (arith, h.2)))
