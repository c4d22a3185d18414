-- Of two states with the same label, the one that has no less of all that rules take gives all that the other gives; and more rules
-- give no less.
-- Assumes nothing.
use mathlib.Core.Path.{◌≡◌, refl, sym, subst}
use mathlib.Core.Logic.{inl, inr}
use mathlib.Core.Bool.{Bool, true, false}
use mathlib.Core.List.{List, [], ◌∷◌}
use Prim.Native.Nat.{ℕ, zero, suc, ◌+◌, ◌-◌, ◌^◌, ◌≤◌, ◌<◌}
use native.Mathlib.Decide.{dec_lt}
use native.Mathlib.Omega.{arith}
use borrow.Author.Tests.{lt-ltb, ne_eqb}
use lib.Dec.{T}
use Rattle.meaning.specs.Labels.{count, inside}
use Rattle.meaning.specs.Sets.{◌∈◌}
use Rattle.meaning.proofs.Bags.{inside-counts, counts-inside, count-minus}
use Rattle.meaning.proofs.Members.{in-append}
use Rattle.labels.specs.Bags.{bag}
use Rattle.sets.specs.Inserting.{present}
use Rattle.rules.specs.Rules.{Exchange, exchange_at, exchanges_before, replaced_by, applies, pick_step, step_of}
use Rattle.choices.specs.Following.{after, each_rule, comes_of}
use Rattle.choices.proofs.Unfolding.{applies→, after-packed, next, comes-step}

-- Of every name that a rule takes, no less is left.
abbrev pub Covers : List Exchange → ℕ → ℕ → Type 0
Covers rs rest rest' = (r : Exchange) → r ∈ rs → (n : ℕ) → 0 < count (bag r.left) n → count (bag rest) n ≤ count (bag rest') n

T→true : (t : Bool) → T t → t ≡ true
T→true true t = refl
T→true false t = absurd t

module _ (r : Exchange) (rest rest' : ℕ) (w : (n : ℕ) → 0 < count (bag r.left) n → count (bag rest) n ≤ count (bag rest') n)
    (e : applies r rest ≡ true) where
  inside' : T (inside (bag r.left) (bag rest'))
  inside' = counts-inside (bag r.left) (bag rest') (λ n. go n (dec_lt 0 (count (bag r.left) n)))
    where
      go : (n : ℕ) → Dec (0 < count (bag r.left) n) → count (bag r.left) n ≤ count (bag rest') n
      go n (yes h) = omega (arith, w n h, inside-counts (bag r.left) (bag rest) (applies→ r rest e).lies n)
      go n (no h) = omega arith

  applies' : applies r rest' ≡ true
  applies' =
      let x = applies→ r rest e in
      let some : r.left ≡ 0 → ⊥ = λ z. let s = x.some in omega arith in
      rw (ne_eqb r.left 0 some, lt-ltb r.left (2 ^ 124) x.fits) (T→true (inside (bag r.left) (bag rest')) inside')

  less-of : (n : ℕ) → count (bag rest) n ≤ count (bag rest') n → count (bag (rest - r.left)) n ≤ count (bag (rest' - r.left)) n
  less-of n h =
      let x = applies→ r rest e in
      let y = applies→ r rest' applies' in
      rw (x.left, y.left, count-minus (bag rest) (bag r.left) n, count-minus (bag rest') (bag r.left) n) (omega arith)

module _ (all : List ℕ) where
  abbrev Gives : List Exchange → ℕ → ℕ → ℕ → ℕ → Type 0
  Gives rs rest rest' sum w = w ∈ comes_of all rs rest sum → w ∈ comes_of all rs rest' sum

  -- of each rule, where all states with less left are covered so
  module _ (rest rest' : ℕ) (less : (rs : List Exchange) (a b : ℕ) → a < rest → Covers rs a b → (sum w : ℕ) → Gives rs a b sum w) where
    step-covered : (rs : List Exchange) → Covers rs rest rest' → (r : Exchange) → r ∈ rs → (sum w : ℕ)
        → w ∈ after (comes_of all rs) (step_of all r rest sum) → w ∈ after (comes_of all rs) (step_of all r rest' sum)
    step-covered rs c r m sum w = go (applies r rest) refl
      where
        go : (t : Bool) → applies r rest ≡ t → w ∈ after (comes_of all rs) (step_of all r rest sum) → w ∈ after (comes_of all rs) (step_of all r rest' sum)
        go false e k = absurd (rw e at k)
        go true e k = rw (applies' r rest rest' (c r m) e) (known (present all (replaced_by r sum)) (rw e at k))
          where
            known : (t : Bool) → w ∈ after (comes_of all rs) (pick_step true t (next all r rest sum))
                → w ∈ after (comes_of all rs) (pick_step true t (next all r rest' sum))
            known true k = k
            known false k =
                rw (after-packed (comes_of all rs) (rest' - r.left) (replaced_by r sum))
                (less rs (rest - r.left) (rest' - r.left) (applies→ r rest e).less
                (λ q l n h. less-of r rest rest' (c r m) e n (c q l n h)) (replaced_by r sum) w
                (rw (after-packed (comes_of all rs) (rest - r.left) (replaced_by r sum)) at k))

    each-covered : (rs : List Exchange) → Covers rs rest rest' → (sum w : ℕ) → w ∈ each_rule (comes_of all) all rs rest sum
        → w ∈ each_rule (comes_of all) all rs rest' sum
    unfolding each_rule
    each-covered [] c sum w m = elim m [ ]
    each-covered (r ∷ rs) c sum w m =
        elim ((in-append w (after (comes_of all (r ∷ rs)) (step_of all r rest sum)) (each_rule (comes_of all) all rs rest sum)).0 m) [
          | inl k ↦ (in-append w (after (comes_of all (r ∷ rs)) (step_of all r rest' sum)) (each_rule (comes_of all) all rs rest' sum)).1
              (inl (step-covered (r ∷ rs) c r (inl refl) sum w k))
          | inr k ↦ (in-append w (after (comes_of all (r ∷ rs)) (step_of all r rest' sum)) (each_rule (comes_of all) all rs rest' sum)).1
              (inr (each-covered rs (λ q l. c q (inr l)) sum w k))
        ]

  covered-by : (most : ℕ) (rs : List Exchange) (rest rest' : ℕ) → rest < most → Covers rs rest rest' → (sum w : ℕ) → Gives rs rest rest' sum w
  covered-by zero rs rest rest' h c sum w m = elim h [ ]
  covered-by (suc most) rs rest rest' h c sum w m =
      let k = subst (λ (l : List ℕ). w ∈ l) (comes-step all rs rest sum) m in
      subst (λ (l : List ℕ). w ∈ l) (sym (comes-step all rs rest' sum)) (elim k [
        | inl e ↦ inl e
        | inr l ↦ inr (each-covered rest rest' (λ qs a b g d s v. covered-by most qs a b (omega arith) d s v) rs c sum w l)
      ])

  -- more rules, of which the others are the last
  one_more : (r : Exchange) (rs : List Exchange) (rest sum w : ℕ) → w ∈ comes_of all rs rest sum → w ∈ comes_of all (r ∷ rs) rest sum
  unfolding each_rule
  one_more r rs rest sum w m =
      let k = subst (λ (l : List ℕ). w ∈ l) (comes-step all rs rest sum) m in
      subst (λ (l : List ℕ). w ∈ l) (sym (comes-step all (r ∷ rs) rest sum)) (elim k [
        | inl e ↦ inl e
        | inr l ↦ inr ((in-append w (after (comes_of all (r ∷ rs)) (step_of all r rest sum)) (each_rule (comes_of all) all rs rest sum)).1 (inr l))
      ])

  more-rules : (ls : List ℕ) (i d : ℕ) (rest sum w : ℕ) → w ∈ comes_of all (exchanges_before ls i) rest sum
      → w ∈ comes_of all (exchanges_before ls (d + d + i)) rest sum
  unfolding exchanges_before
  more-rules ls i zero rest sum w m = let e : zero + zero + i ≡ i = omega arith in subst
      (λ (n : ℕ). w ∈ comes_of all (exchanges_before ls n) rest sum) (sym e) m
  more-rules ls i (suc d) rest sum w m =
      let e : suc d + suc d + i ≡ suc (suc (d + d + i)) = omega arith in
      subst (λ (n : ℕ). w ∈ comes_of all (exchanges_before ls n) rest sum) (sym e)
      (one_more (exchange_at ls (d + d + i)) (exchanges_before ls (d + d + i)) rest sum w (more-rules ls i d rest sum w m))

  pub covered : (ls : List ℕ) (i d : ℕ) (rest rest' sum w : ℕ) → Covers (exchanges_before ls i) rest rest'
      → w ∈ comes_of all (exchanges_before ls i) rest sum → w ∈ comes_of all (exchanges_before ls (d + d + i)) rest' sum
  covered ls i d rest rest' sum w c m =
      more-rules ls i d rest' sum w (covered-by (suc rest) (exchanges_before ls i) rest rest' (omega arith) c sum w m)
