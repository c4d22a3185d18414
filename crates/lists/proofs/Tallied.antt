-- A tally, entry by entry, against the faults of the whole list.
-- Assumes nothing.
use mathlib.Core.Path.{◌≡◌, refl, sym, ap, ◌∙◌}
use mathlib.Core.Bool.{Bool, true, false}
use mathlib.Core.List.{List, [], ◌∷◌, ◌++◌, map}
use Prim.Native.Nat.{ℕ, ◌+◌, ◌%◌, ◌^◌, ◌≤◌, ◌<◌, min}
use native.Mathlib.Nat.{zero-add}
use native.Mathlib.Numerals.{add-one}
use native.Mathlib.Omega.{arith}
use lib.Dec.{leb}
use borrow.Author.Tests.{le-leb, lt-leb, leb-true, leb-false}
use Rattle.grammar.specs.Faults.{Found, worse, items_from, items_fault}
use Rattle.labels.specs.Packing.{code}
use Rattle.labels.proofs.Codes.{code-packed, code_of}
use Rattle.faults.specs.declared.Tally.{Tally}
use Rattle.faults.specs.CodedFaults.{found_of}
use Rattle.lists.specs.Tallies.{Said, item_of, all_faults}
use Rattle.faults.specs.Tallies.{plus_word, empty_tally, Counted}
use Rattle.faults.proofs.Ranks.{worse-assoc}
use Rattle.lists.proofs.Items.{tested, floor_after, weight_of, items-snoc}

pub weight-snoc : {A : Type 0} (weight : A → ℕ) (xs : List A) (x : A) → weight_of weight (xs ++ (x ∷ [])) ≡ weight_of weight xs + weight x
unfolding weight_of
weight-snoc weight [] x = omega arith
weight-snoc weight (y ∷ xs) x = let ih = weight-snoc weight xs x in omega arith

floor-snoc : {A : Type 0} (key : A → ℕ) (floor : ℕ) (xs : List A) (x : A) → floor_after key floor (xs ++ (x ∷ [])) ≡ key x + 1
unfolding floor_after
floor-snoc key floor [] x = sym (add-one (key x))
floor-snoc key floor (y ∷ xs) x = floor-snoc key _ xs x

-- The faults of a list from what its entries say.
pub said-faults : {A : Type 0} (weight place : Said → ℕ) (limit : ℕ) (say : A → Said) (xs : List A)
    → items_fault limit (map (λ x. item_of weight place (say x)) xs) ≡ all_faults weight place limit (map say xs)
unfolding all_faults
said-faults {A = A} weight place limit say xs = ap (items_fault limit) (sym (map-twice xs))
  where
    map-twice : (xs : List A) → map (item_of weight place) (map say xs) ≡ map (λ x. item_of weight place (say x)) xs
    map-twice [] = refl
    map-twice (x ∷ xs) = ap (λ l. item_of weight place (say x) ∷ l) (map-twice xs)

-- a total that is kept to one over its limit
kept : (limit total more : ℕ) → min (limit + 1) (min (limit + 1) total + more) ≡ min (limit + 1) (total + more)
kept limit total more = omega arith

kept-within : (limit total more : ℕ) → leb (min (limit + 1) total + more) limit ≡ leb (total + more) limit
kept-within limit total more = cases (leb (total + more) limit) refl
  where
    cases : (t : Bool) → leb (total + more) limit ≡ t → leb (min (limit + 1) total + more) limit ≡ t
    cases true e = let h = leb-true (total + more) limit e in le-leb (min (limit + 1) total + more) limit (omega arith)
    cases false e = let h = leb-false (total + more) limit e in lt-leb (min (limit + 1) total + more) limit (omega arith)

pub record Tallied (weight place : Said → ℕ) (limit : ℕ) (es : List Said) (t : Tally) : Type 0 where
  pub faults : found_of t.fault ≡ all_faults weight place limit es
  pub floors : code t.floor ≡ floor_after (λ e. e.first) 0 es
  pub totals : t.total ≡ min (limit + 1) (weight_of weight es)

-- Small numbers, so that no sum of them leaves its words.
pub record Modest (t : Tally) (key weight limit : ℕ) : Type 0 where
  pub keys : key < 2 ^ 120
  pub totals : t.total ≤ limit + 1
  pub weights : weight ≤ 99
  pub limits : limit ≤ 99

pub counted-as : {t r : Tally} {found : Found} {key weight other limit most from place : ℕ} → weight ≡ other → limit ≡ most → from ≡ place
    → Counted t found key weight limit from r
    → Counted t found key other most place r
counted-as p q h c = rw (p, q, h) at c

module _ (weight place : Said → ℕ) (limit : ℕ) where
  pub tallied-none : {t : Tally} → t ≡ empty_tally → Tallied weight place limit [] t
  unfolding all_faults items_fault items_from weight_of floor_after
  tallied-none e = rw e (record { faults = refl; floors = code-packed 0; totals = omega arith })

  pub all_snoc : (es : List Said) (e : Said)
      → all_faults weight place limit (es ++ (e ∷ []))
      ≡ worse (worse (all_faults weight place limit es) e.found)
      (tested limit (floor_after (λ d. d.first) 0 es) (weight_of weight es) (item_of weight place e))
  unfolding all_faults items_fault
  all_snoc es e = items-snoc (item_of weight place) limit 0 0 es e ∙ rw zero-add (sym (worse-assoc (all_faults weight place limit es) e.found _))

  pub tallied-more : {es : List Said} {t r : Tally} (e : Said) → Tallied weight place limit es t → Modest t e.first (weight e) limit
      → Counted t e.found e.first (weight e) limit (place e) r
      → Tallied weight place limit (es ++ (e ∷ [])) r
  tallied-more {es} {t} {r} e p m c =
      let sum : plus_word t.total (weight e) ≡ t.total + weight e = omega (arith, m.totals, m.weights, m.limits) in
      let most : plus_word limit 1 ≡ limit + 1 = omega (arith, m.limits) in
      let next : (e.first + 1) % 2 ^ 124 ≡ e.first + 1 = omega (arith, m.keys) in
      record {
        faults = c.faults ∙ rw (sum, p.faults, p.floors, p.totals, kept-within limit (weight_of weight es) (weight e)) (sym (all_snoc es e));
        floors = code_of c.floors ∙ next ∙ sym (floor-snoc (λ d. d.first) 0 es e);
        totals = c.totals ∙ rw (most, sum, p.totals, weight-snoc weight es e) (kept limit (weight_of weight es) (weight e));
      }
