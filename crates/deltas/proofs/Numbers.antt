-- The labels of a list that another does not have, on the numbers of labels: those that are looked for and not found. With the other
-- list they are the whole.
-- Assumes nothing.
use mathlib.Core.Path.{◌≡◌, refl, sym, ap, ap₂, subst, ◌∙◌}
use mathlib.Core.Logic.{inl, inr}
use mathlib.Core.Bool.{Bool, true, false, not}
use mathlib.Core.List.{List, [], ◌∷◌, ◌++◌, map}
use Prim.Native.Nat.{ℕ}
use borrow.Author.Tests.{ltb-true, eqb-true}
use lib.Dec.{T, ltb, eqb}
use lib.ListN.{length, get_or}
use Rattle.meaning.specs.Labels.{Label, number}
use Rattle.meaning.specs.Sets.{◌∈◌, member, Rising, ascending, spread, kept}
use Rattle.meaning.proofs.Ascent.{Within}
use Rattle.meaning.proofs.Digits.{number-injective}
use Rattle.meaning.proofs.Members.{Ascending, in-append, in-at, in_map, in-map→, member→in, in→member}
use Rattle.labels.proofs.Refinement.{Packs, packs-small}
use Rattle.sets.specs.Inserting.{place_of, present}
use Rattle.sets.proofs.Ascent.{and-true}
use Rattle.sets.proofs.Presence.{in-present}
use Rattle.sets.proofs.Refinement.{AllPack, numbers-rising, ascending-same}
use Rattle.merging.specs.Joining.{joined}
use Rattle.merging.proofs.Unions.{joined_number}
use Rattle.logs.specs.Logs.{less_of}
use Rattle.logs.proofs.LogSteps.{less-known, less-new}
use Rattle.deltas.specs.Deltas.{less_labels}
use Rattle.deltas.proofs.Differences.{in-less, less-or-known, less-ascends, ascending-itself}

-- Only what is there is found.
present-in : (s : List ℕ) (w : ℕ) → present s w ≡ true → w ∈ s
present-in s w e =
    let at = place_of s w in
    let p = and-true (ltb at (length s)) (eqb (get_or s at 0) w) e in
    subst (λ (v : ℕ). v ∈ s) (eqb-true (get_or s at 0) w p.1) (in-at s at 0 (ltb-true at (length s) p.0))

module _ (names : ℕ) where
  pub number_same : (a b : Label) → Packs names a → Packs names b → number a ≡ number b → a ≡ b
  number_same a b p q e = number-injective a b (packs-small p) (packs-small q) (p.wide ∙ sym q.wide) e

  pub rising-number : (M : List Label) → AllPack names M → ascending M ≡ M → Rising (map number M)
  rising-number M p up = subst (λ (s : List Label). Rising (map number s)) up (numbers-rising names M p)

  -- A label is found by its number exactly if it is there.
  module _ (L : List Label) (p : AllPack names L) (up : ascending L ≡ L) where
    pub present-number : (a : Label) → Packs names a → present (map number L) (number a) ≡ member a L
    present-number a q = go (present (map number L) (number a)) (member a L) refl refl
      where
        go : (found there : Bool) → present (map number L) (number a) ≡ found → member a L ≡ there → found ≡ there
        go true true e f = refl
        go false false e f = refl
        go true false e f =
            let x = in-map→ number L (number a) (present-in (map number L) (number a) e) in
            let same = number_same a x.source q (p x.source x.there) x.becomes in
            absurd (subst T f (in→member a L (subst (λ (b : Label). b ∈ L) (sym same) x.there)))
        go false true e f =
            sym e ∙ in-present (map number L) (number a) (rising-number L p up) (in_map number L a (member→in a L (subst T (sym f) tt)))

    pub less-number : (R : List Label) → AllPack names R → less_of (map number L) (map number R) ≡ map number (less_labels R L)
    unfolding less_of spread
    less-number [] q = refl
    less-number (a ∷ R) q = go (member a L) (present-number a (q a (inl refl))) (less-number R (λ b m. q b (inr m)))
      where
        go : (t : Bool) → present (map number L) (number a) ≡ t → less_of (map number L) (map number R) ≡ map number (less_labels R L)
            → less_of (map number L) (number a ∷ map number R) ≡ map number (kept (not t) a ++ less_labels R L)
        go true e more = less-known (map number L) (map number R) (number a) e ∙ more
        go false e more = less-new (map number L) (map number R) (number a) e ∙ ap (λ (ws : List ℕ). number a ∷ ws) more

  -- What a newer list has more than an older one: in order, none of the older, and with the older the newer.
  module _ (L N : List Label) (up : Ascending L) (also : Ascending N) (w : Within L N) (p : AllPack names N) where
    known-packs : AllPack names L
    known-packs a m = p a (w a m)

    less-packs : AllPack names (less_labels N L)
    less-packs a m = p a ((in-less N L a).0 m).0

    pub known-rising : Rising (map number L)
    known-rising = rising-number L known-packs (ascending-itself L up)

    pub less-rising : Rising (map number (less_labels N L))
    less-rising = rising-number (less_labels N L) less-packs (ascending-itself (less_labels N L) (less-ascends N L also))

    pub less-apart : (v : ℕ) → v ∈ map number L → v ∈ map number (less_labels N L) → ⊥
    less-apart v m k =
        let x = in-map→ number L v m in
        let y = in-map→ number (less_labels N L) v k in
        let z = (in-less N L y.source).0 y.there in
        let same = number_same x.source y.source (known-packs x.source x.there) (p y.source z.0) (sym x.becomes ∙ y.becomes) in
        z.1 (subst (λ (a : Label). a ∈ L) same x.there)

    pub less-joined : joined (map number L) (map number (less_labels N L)) ≡ map number N
    less-joined =
        let D = less_labels N L in
        ap₂ (λ (s t : List Label). joined (map number s) (map number t)) (sym (ascending-itself L up)) (sym (ascending-itself D (less-ascends N L also)))
        ∙ joined_number names L D known-packs less-packs
        ∙ ap (map number) (ascending-same (L ++ D) N
        (λ a m. elim ((in-append a L D).0 m) [ inl k ↦ w a k | inr k ↦ ((in-less N L a).0 k).0 ])
        (λ a m. (in-append a L D).1 (elim (less-or-known N L a m) [ inl k ↦ inr k | inr k ↦ inl k ]))
        ∙ ascending-itself N also)
