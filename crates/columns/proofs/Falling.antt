-- What is found of a list decides all of its faults, if each of its entries lies behind the one before it.
-- Assumes nothing.
use mathlib.Core.Path.{◌≡◌, refl, sym, ap, subst, ◌∙◌}
use mathlib.Core.Logic.{◌↔◌, inl, inr}
use mathlib.Core.List.{List, [], ◌∷◌, ◌++◌, map, append_assoc, append-nil}
use Prim.Native.Nat.{ℕ, suc, ◌+◌, ◌≤◌, ◌<◌}
use native.Mathlib.Omega.{arith}
use lib.Dec.{leb, leb→le, nleb→lt}
use lib.ListN.{length, length-append}
use Rattle.meaning.specs.Answers.{Fault, amount}
use Rattle.grammar.specs.Faults.{worse, unless, Item, items_from, items_fault}
use Rattle.columns.specs.Leftmost.{Faults, none, ◌or◌, FaultIf, indeed, weights, out_of_order, entry_faults, list_faults}
use Rattle.columns.proofs.Deciding.{Bounds, ◌down_to◌, Told, told_same, told_wider, told-worse, told-fine, told-unless}

-- The last of a list.
last-same : {A : Type 0} (s t : List A) (a b : A) → s ++ (a ∷ []) ≡ t ++ (b ∷ []) → a ≡ b
last-same [] [] a b e = cc
last-same [] (c ∷ t) a b e = absurd (omega (arith, length-append t (b ∷ []), ap length e))
last-same (c ∷ s) [] a b e = absurd (omega (arith, length-append s (a ∷ []), ap length e))
last-same (c ∷ s) (d ∷ t) a b e = last-same s t a b (cc)

module _ {A : Type 0} (own : A → Faults) (item : A → Item) where
  -- An entry, and entries one behind the other: the faults of each lie above those of the next; its amounts are told where it begins.
  pub record Entry (a : A) (upper lower : Bounds) : Type 0 where
    pub middle : Bounds
    pub told : Told (own a) (item a).own upper middle
    pub begins : middle amount ≡ (item a).from
    pub goes_on : middle down_to lower

  abbrev pub Falling : Bounds → List A → Bounds → Type 0
  Falling upper [] lower = upper down_to lower
  Falling upper (a ∷ as') lower = (next : Bounds) × Entry a upper next × Falling next as' lower

  -- That an entry is not above the last of those before it.
  abbrev NotAbove : (before : List A) → A → Type 0
  NotAbove before a = (earlier : List A) × (b : A) × (before ≡ earlier ++ (b ∷ [])) × ((item a).key ≤ (item b).key)

  order-if : (before : List A) (a : A) (x : Fault) (p : ℕ) → FaultIf (NotAbove before a) amount (item a).from x p ↔ out_of_order item before a x p
  order-if before a x p = (to x p, λ h. back x p h.0 h.1 h.2 h.3)
    where
      to : (x : Fault) (p : ℕ) → FaultIf (NotAbove before a) amount (item a).from x p → out_of_order item before a x p
      to _ _ (indeed h) = (h.0, h.1, h.2, indeed h.3)

      back : (x : Fault) (p : ℕ) (earlier : List A) (b : A) → before ≡ earlier ++ (b ∷ [])
          → FaultIf ((item a).key ≤ (item b).key) amount (item a).from x p
          → FaultIf (NotAbove before a) amount (item a).from x p
      back _ _ earlier b e (indeed h) = indeed (earlier, b, e, h)

  -- The least number that is above the last of the entries before.
  abbrev Floor : List A → ℕ → Type 0
  Floor before floor = (a : A) → NotAbove before a ↔ ((item a).key < floor)

  floor-none : Floor [] 0
  floor-none a = (λ h. absurd (omega (arith, length-append h.0 (h.1 ∷ []), ap length h.2)), λ h. absurd (omega arith))

  floor-next : (before : List A) (b : A) → Floor (before ++ (b ∷ [])) (suc (item b).key)
  floor-next before b a = (
    λ h. let e = ap (λ c. (item c).key) (last-same before h.0 b h.1 h.2) in let l = h.3 in omega arith,
    λ h. (before, b, refl, omega arith),
  )

  weights-next : (before : List A) (b : A) → weights item (before ++ (b ∷ [])) ≡ weights item before + (item b).weight
  weights-next [] b = omega arith
  weights-next (a ∷ before) b = let e = weights-next before b in omega arith

  module _ (limit : ℕ) where
    -- One entry, behind those before it.
    amount-told : {P : Type 0} {a : A} {upper lower : Bounds} (e : Entry a upper lower) (m n : ℕ) → (P ↔ (n < m))
        → Told (FaultIf P amount (item a).from) (unless (leb m n) amount (item a).from) e.middle e.middle
    amount-told {P} e m n i =
        subst (λ p. Told (FaultIf P amount p) (unless (leb m n) amount p) e.middle e.middle) e.begins
        (told-unless e.middle amount (leb m n) (λ h p. let k = leb→le m n h in let l = i.0 p in omega arith) (λ h. i.1 (nleb→lt m n h)))

    entry-told : (before : List A) (floor total : ℕ) → Floor before floor → weights item before ≡ total
        → (a : A) {upper lower : Bounds} → Entry a upper lower
        → Told (entry_faults own item limit before a)
        (worse (item a).own
        (worse (unless (leb floor (item a).key) amount (item a).from) (unless (leb (total + (item a).weight) limit) amount (item a).from)))
        upper lower
    entry-told before floor total low e a h =
        let over : (limit < weights item before + (item a).weight) ↔ (limit < total + (item a).weight) = (λ l. omega arith, λ l. omega arith) in
        told_wider (λ x. omega arith) h.goes_on
        (told-worse (item a).own _ h.told
        (told-worse _ _ (told_same _ (order-if before a) (amount-told h floor (item a).key (low a)))
        (amount-told h (total + (item a).weight) limit over)))

    -- The entries from one on, one after the other.
    abbrev Rest : (before : List A) → List A → Faults
    Rest before [] = none
    Rest before (a ∷ as') = entry_faults own item limit before a or Rest (before ++ (a ∷ [])) as'

    rest-told : (before : List A) (floor total : ℕ) → Floor before floor → weights item before ≡ total
        → (as' : List A) {upper lower : Bounds} → Falling upper as' lower
        → Told (Rest before as') (items_from limit floor total (map item as')) upper lower
    unfolding items_from
    rest-told before floor total low e [] h = told_wider h (λ x. omega arith) told-fine
    rest-told before floor total low e (a ∷ as') h =
        told-worse _ _ (entry-told before floor total low e a h.1)
        (rest-told (before ++ (a ∷ [])) (suc (item a).key) (total + (item a).weight) (floor-next before a)
        (weights-next before a ∙ ap (λ n. n + (item a).weight) e) as' h.2)

    -- They are the entries that have others before them and behind them.
    abbrev Somewhere : (before : List A) → List A → Faults
    Somewhere before as' x p =
        (between : List A) × (a : A) × (after : List A) × (as' ≡ between ++ (a ∷ after))
        × entry_faults own item limit (before ++ between) a x p

    rest→ : (before as' : List A) (x : Fault) (p : ℕ) → Rest before as' x p → Somewhere before as' x p
    rest→ before [] x p h = absurd h
    rest→ before (a ∷ as') x p (inl h) =
        ([], a, as', refl, subst (λ s. entry_faults own item limit s a x p) (sym (append-nil before)) h)
    rest→ before (a ∷ as') x p (inr h) =
        let k = rest→ (before ++ (a ∷ [])) as' x p h in (
          a ∷ k.0,
          k.1,
          k.2,
          ap {B = List A} (λ s. a ∷ s) k.3,
          subst (λ s. entry_faults own item limit s k.1 x p) (append_assoc before (a ∷ []) k.0) k.4,
        )

    rest← : (before as' : List A) (x : Fault) (p : ℕ) (between : List A) (a : A) (after : List A) → as' ≡ between ++ (a ∷ after)
        → entry_faults own item limit (before ++ between) a x p → Rest before as' x p
    rest← before [] x p between a after e h = absurd (omega (arith, length-append between (a ∷ after), ap length e))
    rest← before (b ∷ as') x p [] a after e h =
        let i : a ≡ b = cc in
        inl (subst (λ b. entry_faults own item limit before b x p) i (subst (λ s. entry_faults own item limit s a x p) (append-nil before) h))
    rest← before (b ∷ as') x p (c ∷ between) a after e h =
        let i : c ≡ b = cc in
        inr (rest← (before ++ (b ∷ [])) as' x p between a after (cc)
        (subst (λ s. entry_faults own item limit s a x p)
        (ap (λ c. before ++ (c ∷ between)) i ∙ sym (append_assoc before (b ∷ []) between)) h))

    pub list-told : (as' : List A) {upper lower : Bounds} → Falling upper as' lower
        → Told (list_faults own item limit as') (items_fault limit (map item as')) upper lower
    unfolding items_fault
    list-told as' h =
        told_same _ (λ x p. (rest→ [] as' x p, λ k. rest← [] as' x p k.0 k.1 k.2 k.3 k.4)) (rest-told [] 0 0 floor-none refl as' h)
