-- The faults of what is counted one after the other: of one more, of none at fault, and that an entry at fault needs no number.
-- Assumes nothing.
use mathlib.Core.Path.{◌≡◌, refl, sym, ◌∙◌}
use mathlib.Core.Bool.{Bool, true, false}
use mathlib.Core.List.{List, [], ◌∷◌, ◌++◌, map}
use Prim.Native.Nat.{ℕ, suc, ◌+◌, ◌≤◌}
use native.Mathlib.Nat.{add_assoc, add-zero}
use native.Mathlib.Omega.{arith}
use lib.Dec.{leb}
use borrow.Author.Tests.{leb-true}
use Rattle.meaning.specs.Legal.{Each}
use Rattle.meaning.specs.Answers.{Fault, form, name, range, amount, fault_number}
use Rattle.grammar.specs.Faults.{Found, fine, fault, worse, unless, Item, items_from}
use Rattle.faults.proofs.Ranks.{worse-fine, worse-assoc, worse-first, worse-none, unless-none}

-- A fault that was found leaves the faults of order and amount behind it no say.
last-number : (x : Fault) → fault_number x ≤ 5
last-number form = omega arith
last-number name = omega arith
last-number range = omega arith
last-number amount = omega arith

behind : (x : Fault) (p : ℕ) (b : Bool) (q : ℕ) → worse (fault x p) (unless b amount q) ≡ fault x p
behind x p true q = refl
behind x p false q = worse-first x amount p q (last-number x)

-- what an entry adds to its own fault: those of the order and the amount
abbrev pub tested : (limit floor total : ℕ) → Item → Found
tested limit floor total i = worse (unless (leb floor i.key) amount i.from) (unless (leb (total + i.weight) limit) amount i.from)

tested-behind : (limit floor total : ℕ) (i : Item) (x : Fault) (p : ℕ) → worse (fault x p) (tested limit floor total i) ≡ fault x p
tested-behind limit floor total i x p =
    let ordered = leb floor i.key in
    let within = leb (total + i.weight) limit in
    sym (worse-assoc (fault x p) (unless ordered amount i.from) (unless within amount i.from))
    ∙ rw (behind x p ordered i.from) (behind x p within i.from)

module _ (test rest others : Found) (gone : (x : Fault) (p : ℕ) → worse (fault x p) test ≡ fault x p)
    (same : (x : Fault) (p : ℕ) → worse (fault x p) rest ≡ worse (fault x p) others) where
  untested : (own : Found) (x : Fault) (p : ℕ) → worse (fault x p) (worse (worse own test) rest) ≡ worse (fault x p) (worse own others)
  untested fine x p = sym (worse-assoc (fault x p) test rest) ∙ rw (gone x p) (same x p)
  untested (fault y q) x p = rw (gone y q, same y q)

-- The least number that may follow entries, their weight, and their own faults.
unfoldable pub floor_after : {A : Type 0} → (A → ℕ) → ℕ → List A → ℕ
floor_after key floor [] = floor
floor_after key floor (x ∷ xs) = floor_after key (suc (key x)) xs

unfoldable pub weight_of : {A : Type 0} → (A → ℕ) → List A → ℕ
weight_of weight [] = 0
weight_of weight (x ∷ xs) = weight x + weight_of weight xs

unfoldable owns : {A : Type 0} → (A → Found) → List A → Found
owns own [] = fine
owns own (x ∷ xs) = worse (own x) (owns own xs)

module _ {A : Type 0} (item : A → Item) (limit : ℕ) where
  pub items-snoc : (floor total : ℕ) (xs : List A) (x : A)
      → items_from limit floor total (map item (xs ++ (x ∷ [])))
      ≡ worse (items_from limit floor total (map item xs))
      (worse (item x).own (tested limit (floor_after (λ y. (item y).key) floor xs) (total + weight_of (λ y. (item y).weight) xs) (item x)))
  unfolding items_from floor_after weight_of
  items-snoc floor total [] x = rw add-zero (worse-fine _)
  items-snoc floor total (y ∷ xs) x =
      rw (items-snoc (suc (item y).key) (total + (item y).weight) xs x, ← add_assoc total (item y).weight (weight_of (λ y. (item y).weight) xs))
      (sym (worse-assoc (worse (item y).own (tested limit floor total (item y))) _ _))

  pub items-fine : (floor total : ℕ) (xs : List A) → items_from limit floor total (map item xs) ≡ fine → Each (λ x. (item x).own ≡ fine) xs
  unfolding items_from
  items-fine floor total [] e = tt
  items-fine floor total (x ∷ xs) e =
      let p = worse-none (worse (item x).own (tested limit floor total (item x))) _ e in
      ((worse-none (item x).own (tested limit floor total (item x)) p.0).0, items-fine (suc (item x).key) (total + (item x).weight) xs p.1)

  pub items-within : (floor total : ℕ) (xs : List A) → total ≤ limit → items_from limit floor total (map item xs) ≡ fine
      → total + weight_of (λ x. (item x).weight) xs ≤ limit
  unfolding items_from weight_of
  items-within floor total [] h e = omega arith
  items-within floor total (x ∷ xs) h e =
      let p = worse-none (worse (item x).own (tested limit floor total (item x))) _ e in
      let q = worse-none (item x).own (tested limit floor total (item x)) p.0 in
      let light = leb (total + (item x).weight) limit in
      let w = unless-none light amount (item x).from (worse-none (unless (leb floor (item x).key) amount (item x).from) _ q.1).1 in
      let ih = items-within (suc (item x).key) (total + (item x).weight) xs (leb-true (total + (item x).weight) limit w) p.1 in
      omega arith

  -- behind a fault only the entries' own count
  after-fault : (floor total : ℕ) (xs : List A) (f : Fault) (p : ℕ)
      → worse (fault f p) (items_from limit floor total (map item xs)) ≡ worse (fault f p) (owns (λ x. (item x).own) xs)
  unfolding items_from owns
  after-fault floor total [] = λ f p. refl
  after-fault floor total (x ∷ xs) =
      untested _ _ _ (tested-behind limit floor total (item x)) (after-fault (suc (item x).key) (total + (item x).weight) xs) (item x).own

-- An entry at fault needs no number: another one makes no difference.
abbrev pub numbered : ℕ → Item → Item
numbered key i = record { own = i.own; key = key; weight = i.weight; from = i.from }

module _ {A : Type 0} (item : A → Item) (key : A → ℕ) (limit : ℕ) (same : (x : A) → (item x).own ≡ fine → key x ≡ (item x).key) where
  abbrev other : A → Item
  other x = numbered (key x) (item x)

  -- one entry with its own fault, and those behind it
  abbrev turn : (A → Item) → (floor total : ℕ) → Found → A → List A → Found
  turn which floor total own x xs =
      worse (worse own (tested limit floor total (which x))) (items_from limit (suc (which x).key) (total + (which x).weight) (map which xs))

  turn-aside : (floor total : ℕ) (own : Found) (x : A) (xs : List A) → (item x).own ≡ own
      → items_from limit (suc (item x).key) (total + (item x).weight) (map other xs)
      ≡ items_from limit (suc (item x).key) (total + (item x).weight) (map item xs)
      → turn other floor total own x xs ≡ turn item floor total own x xs
  turn-aside floor total fine x xs e ih = rw (same x e, ih)
  turn-aside floor total (fault f p) x xs e ih =
      rw (tested-behind limit floor total (other x) f p, tested-behind limit floor total (item x) f p)
      (after-fault other limit (suc (key x)) (total + (item x).weight) xs f p
      ∙ sym (after-fault item limit (suc (item x).key) (total + (item x).weight) xs f p))

  pub keys-aside : (floor total : ℕ) (xs : List A) → items_from limit floor total (map other xs) ≡ items_from limit floor total (map item xs)
  unfolding items_from
  keys-aside floor total [] = refl
  keys-aside floor total (x ∷ xs) =
      turn-aside floor total (item x).own x xs refl (keys-aside (suc (item x).key) (total + (item x).weight) xs)
