-- What is built of the numbers of labels is the list of numbers of what `meaning` makes of the labels; and it is refused exactly
-- where that passes a limit.
-- Assumes nothing.
use mathlib.Core.Path.{◌≡◌, refl, sym, ap, subst, ◌∙◌}
use mathlib.Core.Logic.{◌⊎◌, inl, inr}
use mathlib.Core.Bool.{Bool, false}
use mathlib.Core.List.{List, [], ◌∷◌, ◌++◌, map}
use Prim.Native.Nat.{ℕ, ◌<◌, compare, Ordering}
use native.Mathlib.Omega.{arith}
use lib.ListN.{length, length-map}
use Rattle.meaning.specs.Labels.{Label, number, order}
use Rattle.meaning.specs.Sets.{◌∈◌, Rising, placed, insert, ascending, spread}
use Rattle.meaning.proofs.Tests.{Says}
use Rattle.meaning.proofs.Order.{◌≺◌, order-says, ≺-irrefl, ≺-trans}
use Rattle.meaning.proofs.Digits.{number-below}
use Rattle.meaning.proofs.Ascent.{Within, sorted-once, once-count}
use Rattle.meaning.proofs.Limits.{Long}
use Rattle.meaning.proofs.Members.{in-append, in-ascending, ascending-ascends, ascending-unique}
use Rattle.labels.proofs.Refinement.{Packs, packs-small}
use Rattle.sets.specs.Building.{Building, done, goes_on, and_then, each, enter}
use Rattle.sets.specs.Inserting.{placed_by, insert_number}
use Rattle.sets.proofs.Ascent.{compare-lt, compare-gt, compare-eq, rising-insert, Entering, rising-enter}

-- The numbers of labels are ordered as the labels are.
module _ (names : ℕ) where
  abbrev pub AllPack : List Label → Type 0
  AllPack M = (a : Label) → a ∈ M → Packs names a

  number-≺ : (a b : Label) → Packs names a → Packs names b → a ≺ b → number a < number b
  number-≺ a b p q h = number-below a b (packs-small p) (packs-small q) (p.wide ∙ sym q.wide) h

  pub compare-number : (a b : Label) → Packs names a → Packs names b → compare (number a) (number b) ≡ order a b
  compare-number a b p q = go (order a b) (order-says a b)
    where
      go : (o : Ordering) → Says ◌≺◌ o a b → compare (number a) (number b) ≡ o
      go Ordering.lt h = compare-lt (number a) (number b) (number-≺ a b p q h)
      go Ordering.eq h = compare-eq (number a) (number b) (ap number h)
      go Ordering.gt h = compare-gt (number a) (number b) (number-≺ b a q p h)

  placed-number : (o : Ordering) (a b : Label) (s more : List Label)
      → placed_by o (number a) (number b) (map number s) (map number more) ≡ map number (placed o a b s more)
  placed-number Ordering.lt a b s more = refl
  placed-number Ordering.eq a b s more = refl
  placed-number Ordering.gt a b s more = refl

  pub insert-number : (a : Label) (s : List Label) → Packs names a → AllPack s
      → insert_number (number a) (map number s) ≡ map number (insert a s)
  unfolding insert_number insert
  insert-number a [] p q = refl
  insert-number a (b ∷ s) p q =
      rw (compare-number a b p (q b (inl refl)), insert-number a s p (λ c m. q c (inr m))) (placed-number (order a b) a b s (insert a s))

  pub packs-cons : (a : Label) (M : List Label) → Packs names a → AllPack M → AllPack (a ∷ M)
  packs-cons a M p q c (inl e) = subst (Packs names) (sym e) p
  packs-cons a M p q c (inr m) = q c m

  packs-ascending : (M : List Label) → AllPack M → AllPack (ascending M)
  packs-ascending M p a m = p a ((in-ascending M a).0 m)

  pub insert-ascending : (a : Label) (M : List Label) → Packs names a → AllPack M
      → insert_number (number a) (map number (ascending M)) ≡ map number (ascending (a ∷ M))
  unfolding ascending
  insert-ascending a M p q = insert-number a (ascending M) p (packs-ascending M q)

  pub numbers-rising : (M : List Label) → AllPack M → Rising (map number (ascending M))
  unfolding ascending
  numbers-rising [] p = tt
  numbers-rising (a ∷ M) p =
      rw (sym (insert-number a (ascending M) (p a (inl refl)) (packs-ascending M (λ c m. p c (inr m)))))
      (rising-insert (number a) (map number (ascending M)) (numbers-rising M (λ c m. p c (inr m))))

-- Lists with the same members.
pub ascending-same : (M N : List Label) → Within M N → Within N M → ascending M ≡ ascending N
ascending-same M N w v =
    ascending-unique (ascending M) (ascending N) (ascending-ascends M) (ascending-ascends N)
    (λ a m. (in-ascending N a).1 (w a ((in-ascending M a).0 m))) (λ a m. (in-ascending M a).1 (v a ((in-ascending N a).0 m)))

-- A list passes a limit: too many labels, or one of over 31 actions.
abbrev pub TooMuch : ℕ → List Label → Type 0
TooMuch room M = (room < length (ascending M)) ⊎ Long M

pub too-much-more : (room : ℕ) (M N : List Label) → Within M N → TooMuch room M → TooMuch room N
too-much-more room M N w (inl h) =
    let k = (once-count (ascending M) (ascending N) (sorted-once ◌≺◌ ≺-irrefl ≺-trans (ascending M) (ascending-ascends M))
    (λ a m. (in-ascending N a).1 (w a ((in-ascending M a).0 m)))).0 in
    inl (omega arith)
too-much-more room M N w (inr x) = inr (record { label = x.label; there = w x.label x.there; long = x.long })

-- What is built stands for a list of labels, with a property that goes by members; or the list passes a limit.
module _ (names room : ℕ) (I : List Label → Type 0) (moves : (M N : List Label) → Within M N → Within N M → I M → I N) where
  pub record Whole (M : List Label) (b : Building) : Type 0 where
    pub built : b ≡ done (map number (ascending M))
    pub packs : AllPack names M
    pub kept : I M

  abbrev pub Outcome : List Label → Building → Type 0
  Outcome M b = Whole M b ⊎ ((b.whole ≡ false) × TooMuch room M)

  pub outcome-same : (M N : List Label) (b : Building) → Within M N → Within N M → Outcome M b → Outcome N b
  outcome-same M N b w v (inl x) =
      inl (record {
        built = x.built ∙ ap (λ (s : List Label). done (map number s)) (ascending-same M N w v);
        packs = λ a m. x.packs a (v a m);
        kept = moves M N w v x.kept;
      })
  outcome-same M N b w v (inr x) = inr (x.0, too-much-more room M N w x.1)

  module _ (step : ℕ → List ℕ → Building) (gives : Label → List Label)
      (good : (a : Label) (M : List Label) → Packs names a → AllPack names M → I M
      → Outcome (gives a ++ M) (step (number a) (map number (ascending M)))) where
    -- the members, in whichever order they come
    in-swap : (xs ys zs : List Label) → Within (ys ++ (xs ++ zs)) ((xs ++ ys) ++ zs)
    in-swap xs ys zs a m = elim ((in-append a ys (xs ++ zs)).0 m) [
      | inl k ↦ (in-append a (xs ++ ys) zs).1 (inl ((in-append a xs ys).1 (inr k)))
      | inr k ↦ elim ((in-append a xs zs).0 k) [
        | inl l ↦ (in-append a (xs ++ ys) zs).1 (inl ((in-append a xs ys).1 (inl l)))
        | inr l ↦ (in-append a (xs ++ ys) zs).1 (inr l)
      ]
    ]

    in-swap-back : (xs ys zs : List Label) → Within ((xs ++ ys) ++ zs) (ys ++ (xs ++ zs))
    in-swap-back xs ys zs a m = elim ((in-append a (xs ++ ys) zs).0 m) [
      | inl k ↦ elim ((in-append a xs ys).0 k) [
        | inl l ↦ (in-append a ys (xs ++ zs)).1 (inr ((in-append a xs zs).1 (inl l)))
        | inr l ↦ (in-append a ys (xs ++ zs)).1 (inl l)
      ]
      | inr k ↦ (in-append a ys (xs ++ zs)).1 (inr ((in-append a xs zs).1 (inr k)))
    ]

    within_more : (xs ys zs : List Label) → Within (xs ++ zs) ((xs ++ ys) ++ zs)
    within_more xs ys zs a m = in-swap xs ys zs a ((in-append a ys (xs ++ zs)).1 (inr m))

    next-outcome : (a : Label) (l M : List Label) (b : Building) → Outcome (gives a ++ M) b
        → ((N : List Label) → AllPack names N → I N → Outcome (spread gives l ++ N) (each step (map number l) (map number (ascending N))))
        → Outcome ((gives a ++ spread gives l) ++ M) (and_then b (each step (map number l)))
    next-outcome a l M b (inl x) more =
        outcome-same (spread gives l ++ (gives a ++ M)) ((gives a ++ spread gives l) ++ M) (and_then b (each step (map number l)))
        (in-swap (gives a) (spread gives l) M) (in-swap-back (gives a) (spread gives l) M)
        (rw x.built (more (gives a ++ M) x.packs x.kept))
    next-outcome a l M b (inr x) more =
        inr (
          ap (λ (t : Bool). (goes_on t b (each step (map number l))).whole) x.0 ∙ x.0,
          too-much-more room (gives a ++ M) ((gives a ++ spread gives l) ++ M) (within_more (gives a) (spread gives l) M) x.1,
        )

    pub each-outcome : (l M : List Label) → AllPack names l → AllPack names M → I M
        → Outcome (spread gives l ++ M) (each step (map number l) (map number (ascending M)))
    unfolding each spread
    each-outcome [] M p q i = inl (record { built = refl; packs = q; kept = i })
    each-outcome (a ∷ l) M p q i =
        next-outcome a l M (step (number a) (map number (ascending M))) (good a M (p a (inl refl)) q i)
        (λ N r j. each-outcome l N (λ c m. p c (inr m)) r j)

  -- one label more
  pub enter-outcome : (a : Label) (M : List Label) → Packs names a → AllPack names M → I (a ∷ M)
      → Outcome (a ∷ M) (enter room (number a) (map number (ascending M)))
  unfolding Entering
  enter-outcome a M p q i = entered (rising-enter room (number a) (map number (ascending M)) (numbers-rising names M q))
    where
      in_order : insert_number (number a) (map number (ascending M)) ≡ map number (ascending (a ∷ M))
      in_order = insert-ascending names a M p q

      entered : Entering room (number a) (map number (ascending M)) → Outcome (a ∷ M) (enter room (number a) (map number (ascending M)))
      entered (inl e) = inl (record { built = e ∙ ap done in_order; packs = packs-cons names a M p q; kept = i })
      entered (inr e) = inr (ap (λ (b : Building). b.whole) e.0, inl (rw (← length-map (ascending (a ∷ M)) number, ← in_order) e.1))
