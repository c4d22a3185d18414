-- A memory of which all that is kept is true of a set: what it knows is in the set, and it stays so when a state is kept of which the
-- set has all.
-- Assumes nothing.
use mathlib.Core.Path.{◌≡◌, refl, sym, ap, subst, ◌∙◌}
use mathlib.Core.Logic.{inl, inr}
use mathlib.Core.Bool.{Bool, true, false, not, ◌&&◌, false≢true}
use mathlib.Core.List.{List, [], ◌∷◌}
use Prim.Native.Nat.{ℕ, zero, suc, ◌+◌, ◌-◌, ◌*◌, ◌/◌, ◌%◌, ◌^◌, ◌≤◌, ◌<◌}
use native.Mathlib.Nat.{le_refl}
use native.Mathlib.Decide.{ℕ_discrete}
use native.Mathlib.Omega.{arith}
use borrow.Author.Tests.{ltb-true, leb-true, eqb-true, eqb-false, not-true}
use lib.Dec.{eqb, leb, ltb}
use lib.ListN.{length, get_or, set, length-set, replicate, length-replicate, get_or-replicate}
use lib.Seq.{get_or-set_same, get_or-set_other}
use Rattle.meaning.specs.Labels.{count}
use Rattle.meaning.specs.Sets.{◌∈◌}
use Rattle.meaning.proofs.Tests.{or-true→}
use Rattle.labels.specs.Bags.{bag, as_much}
use Rattle.labels.proofs.Words.{as-much-counts}
use Rattle.rules.specs.Rules.{Exchange, exchanges_before}
use Rattle.choices.specs.Following.{comes_of}
use Rattle.choices.proofs.Covering.{Covers, covered}
use Rattle.memory.specs.Memory.{slot_of, way_of, covers_in, reaches, place_at, holds_at, holds_from, known_in, kept_at, remembered, Recalls, ways}

first_of : (s t : Bool) → s && t ≡ true → s ≡ true
first_of true t e = refl
first_of false t e = e

second-of : (s t : Bool) → s && t ≡ true → t ≡ true
second-of true t e = e
second-of false t e = absurd (false≢true e)

-- Of what every rule takes, no less is left.
covers→ : (rs : List Exchange) (a b : ℕ) → covers_in rs a b ≡ true → Covers rs a b
unfolding covers_in
covers→ [] a b e r x3 n h = elim x3 [ ]
covers→ (q ∷ rs) a b e r (inl m) n h =
    let t = first_of (as_much (bag q.left) (bag a) (bag b)) (covers_in rs a b) e in
    as-much-counts q.left a b t n (subst (λ (x : Exchange). 0 < count (bag x.left) n) m h)
covers→ (q ∷ rs) a b e r (inr m) n h =
    covers→ rs a b (second-of (as_much (bag q.left) (bag a) (bag b)) (covers_in rs a b) e) r m n h

module _ (all ls memory s : List ℕ) (before rest sum : ℕ) where
  abbrev All : Type 0
  All = (w : ℕ) → w ∈ comes_of all (exchanges_before ls before) rest sum → w ∈ s

  -- what the tests of one entry tell
  holds→there : (entry : ℕ) → Recalls all ls memory s → (sum ≡ 0 → ⊥) → holds_at memory ls entry before rest sum ≡ true → All
  holds→there entry x n e w m =
      let place = place_at memory entry in
      let kept = get_or memory (3 * entry + 1) 0 in
      let covers = covers_in (exchanges_before ls before) rest kept in
      let own = eqb (get_or memory (3 * entry) 0) sum in
      let stands = ltb (3 * entry + 2) (length memory) in
      let h = ltb-true (3 * entry + 2) (length memory) (first_of stands (own && (reaches place before && covers)) e) in
      let e₁ = second-of stands (own && (reaches place before && covers)) e in
      let same : get_or memory (3 * entry) 0 ≡ sum = eqb-true (get_or memory (3 * entry) 0) sum (first_of own (reaches place before && covers) e₁) in
      let e₂ = second-of own (reaches place before && covers) e₁ in
      let e₃ = first_of (reaches place before) covers e₂ in
      let l = leb-true before place (first_of (leb before place) (eqb ((place - before) % 2) 0) e₃) in
      let even = eqb-true ((place - before) % 2) 0 (second-of (leb before place) (eqb ((place - before) % 2) 0) e₃) in
      there place kept (get_or memory (3 * entry) 0) same l even
      (second-of (reaches place before) covers e₂) (x entry h (λ z. n (sym same ∙ z)))
    where
      there : (place kept own : ℕ) → own ≡ sum → before ≤ place → (place - before) % 2 ≡ 0
          → covers_in (exchanges_before ls before) rest kept ≡ true
          → ((v : ℕ) → v ∈ comes_of all (exchanges_before ls place) kept own → v ∈ s) → w ∈ s
      there place kept own same l even c y =
          let d = (place - before) / 2 in
          let far : d + d + before ≡ place = omega arith in
          y w (subst (λ (i : ℕ). w ∈ comes_of all (exchanges_before ls i) kept own) far
          (subst (λ (v : ℕ). w ∈ comes_of all (exchanges_before ls (d + d + before)) kept v) (sym same)
          (covered all ls before d rest kept sum w (covers→ (exchanges_before ls before) rest kept c) m)))

  from→there : (more entry : ℕ) → Recalls all ls memory s → (sum ≡ 0 → ⊥) → holds_from more memory ls entry before rest sum ≡ true → All
  unfolding holds_from
  from→there zero entry x n e = absurd (false≢true e)
  from→there (suc more) entry x n e =
      elim (or-true→ (holds_at memory ls entry before rest sum) (holds_from more memory ls (suc entry) before rest sum) e) [
        | inl t ↦ holds→there entry x n t
        | inr t ↦ from→there more (suc entry) x n t
      ]

pub known→there : (all ls memory s : List ℕ) (before rest sum : ℕ) → Recalls all ls memory s → known_in memory ls before rest sum ≡ true
    → (w : ℕ) → w ∈ comes_of all (exchanges_before ls before) rest sum → w ∈ s
known→there all ls memory s before rest sum x e =
    let some = not-true (eqb sum 0) (first_of (not (eqb sum 0)) (holds_from ways memory ls (ways * slot_of sum) before rest sum) e) in
    from→there all ls memory s before rest sum ways (ways * slot_of sum) x (eqb-false sum 0 some)
    (second-of (not (eqb sum 0)) (holds_from ways memory ls (ways * slot_of sum) before rest sum) e)

-- An empty memory knows nothing.
from→some : (memory ls : List ℕ) (before rest sum more entry : ℕ) → holds_from more memory ls entry before rest sum ≡ true → 2 < length memory
unfolding holds_from
from→some memory ls before rest sum zero entry e = absurd (false≢true e)
from→some memory ls before rest sum (suc more) entry e =
    elim (or-true→ (holds_at memory ls entry before rest sum) (holds_from more memory ls (suc entry) before rest sum) e) [
      | inl t ↦ omega (arith, ltb-true (3 * entry + 2) (length memory) (first_of (ltb (3 * entry + 2) (length memory)) _ t))
      | inr t ↦ from→some memory ls before rest sum more (suc entry) t
    ]

pub known→some : (memory ls : List ℕ) (before rest sum : ℕ) → known_in memory ls before rest sum ≡ true → 2 < length memory
known→some memory ls before rest sum e =
    from→some memory ls before rest sum ways (ways * slot_of sum)
    (second-of (not (eqb sum 0)) (holds_from ways memory ls (ways * slot_of sum) before rest sum) e)

pub nothing_known : (memory ls : List ℕ) (before rest sum : ℕ) → length memory ≡ 0 → false ≡ known_in memory ls before rest sum
nothing_known memory ls before rest sum h = go (known_in memory ls before rest sum) refl
  where
    go : (known : Bool) → known_in memory ls before rest sum ≡ known → false ≡ known
    go true e = absurd (omega (arith, known→some memory ls before rest sum e))
    go false e = refl

-- What is true of a set is true of one with more.
pub recalls-more : (all ls memory s s' : List ℕ) → Recalls all ls memory s → ((w : ℕ) → w ∈ s → w ∈ s') → Recalls all ls memory s'
recalls-more all ls memory s s' x f entry h n w m = f w (x entry h n w m)

-- What comes by the rules before a place as far as a word holds it, comes by those before the place: 2 to the power 64 is even.
fewer-come : (all ls : List ℕ) (before rest sum w : ℕ) → w ∈ comes_of all (exchanges_before ls (before % 2 ^ 64)) rest sum
    → w ∈ comes_of all (exchanges_before ls before) rest sum
fewer-come all ls before rest sum w m =
    let d = (before - before % 2 ^ 64) / 2 in
    let far : d + d + before % 2 ^ 64 ≡ before = omega arith in
    subst (λ (i : ℕ). w ∈ comes_of all (exchanges_before ls i) rest sum) far
    (covered all ls (before % 2 ^ 64) d rest rest sum w (λ r k n h. le_refl (count (bag rest) n)) m)

-- What stands in a memory with a state kept: the state at its entry, and elsewhere what stood there.
module _ (memory : List ℕ) (entry before rest sum : ℕ) where
  pub length-kept : length (kept_at memory entry before rest sum) ≡ length memory
  length-kept = simp length-set

  module _ (h : 3 * entry + 2 < length memory) where
    own-place : get_or (kept_at memory entry before rest sum) (3 * entry + 2) 0 ≡ before
    own-place =
        get_or-set_same (set (set memory (3 * entry) sum) (3 * entry + 1) rest) (3 * entry + 2) before 0 (simp length-set h)

    own-rest : get_or (kept_at memory entry before rest sum) (3 * entry + 1) 0 ≡ rest
    own-rest =
        get_or-set_other (set (set memory (3 * entry) sum) (3 * entry + 1) rest) (3 * entry + 2) (3 * entry + 1) before 0 (λ e. omega arith)
        ∙ get_or-set_same (set memory (3 * entry) sum) (3 * entry + 1) rest 0 (simp length-set (omega arith))

    own-sum : get_or (kept_at memory entry before rest sum) (3 * entry) 0 ≡ sum
    own-sum =
        get_or-set_other (set (set memory (3 * entry) sum) (3 * entry + 1) rest) (3 * entry + 2) (3 * entry) before 0 (λ e. omega arith)
        ∙ get_or-set_other (set memory (3 * entry) sum) (3 * entry + 1) (3 * entry) rest 0 (λ e. omega arith)
        ∙ get_or-set_same memory (3 * entry) sum 0 (omega arith)

  -- a place that is none of the entry's
  elsewhere : (i : ℕ) → (i ≡ 3 * entry → ⊥) → (i ≡ 3 * entry + 1 → ⊥) → (i ≡ 3 * entry + 2 → ⊥)
      → get_or (kept_at memory entry before rest sum) i 0 ≡ get_or memory i 0
  elsewhere i a b c =
      get_or-set_other (set (set memory (3 * entry) sum) (3 * entry + 1) rest) (3 * entry + 2) i before 0 c
      ∙ get_or-set_other (set memory (3 * entry) sum) (3 * entry + 1) i rest 0 b ∙ get_or-set_other memory (3 * entry) i sum 0 a

module _ (all ls memory s : List ℕ) (entry before rest sum : ℕ) (x : Recalls all ls memory s)
    (y : (w : ℕ) → w ∈ comes_of all (exchanges_before ls before) rest sum → w ∈ s) where
  abbrev kept : List ℕ
  kept = kept_at memory entry before rest sum

  kept-recalls : Recalls all ls kept s
  kept-recalls k h n w m = go (ℕ_discrete k entry)
    where
      stands : 3 * k + 2 < length memory
      stands = rw (length-kept memory entry before rest sum) at h

      same : (i j l : ℕ) (i' j' l' : ℕ) → i ≡ i' → j ≡ j' → l ≡ l' → w ∈ comes_of all (exchanges_before ls i) j l
          → w ∈ comes_of all (exchanges_before ls i') j' l'
      same i j l i' j' l' p q r t = rw (← p, ← q, ← r) t

      go : Dec (k ≡ entry) → w ∈ s
      go (yes e) =
          let b : 3 * entry + 2 < length memory = rw e at stands in
          y w (fewer-come all ls before rest sum w (same (place_at kept k) (get_or kept (3 * k + 1) 0) (get_or kept (3 * k) 0) (before % 2 ^ 64) rest sum
          (ap (place_at kept) e ∙ ap (λ (i : ℕ). i % 2 ^ 64) (own-place memory entry before rest sum b))
          (ap (λ (i : ℕ). get_or kept (3 * i + 1) 0) e ∙ own-rest memory entry before rest sum b)
          (ap (λ (i : ℕ). get_or kept (3 * i) 0) e ∙ own-sum memory entry before rest sum b) m))
      go (no d) =
          let f : (i : ℕ) → i ≤ 2 → get_or kept (3 * k + i) 0 ≡ get_or memory (3 * k + i) 0 =
          λ i l. elsewhere memory entry before rest sum (3 * k + i) (λ e. d (omega arith)) (λ e. d (omega arith)) (λ e. d (omega arith)) in
          let z = elsewhere memory entry before rest sum (3 * k) (λ e. d (omega arith)) (λ e. d (omega arith)) (λ e. d (omega arith)) in
          x k stands (λ e. n (z ∙ e)) w
          (same (place_at kept k) (get_or kept (3 * k + 1) 0) (get_or kept (3 * k) 0) (place_at memory k) (get_or memory (3 * k + 1) 0)
          (get_or memory (3 * k) 0)
          (ap (λ (i : ℕ). i % 2 ^ 64) (f 2 (omega arith))) (f 1 (omega arith)) z m)

pub remembered-recalls : (all ls memory s : List ℕ) (before rest sum : ℕ) → Recalls all ls memory s
    → ((w : ℕ) → w ∈ comes_of all (exchanges_before ls before) rest sum → w ∈ s) → Recalls all ls (remembered memory before rest sum) s
remembered-recalls all ls memory s before rest sum x y = kept-recalls all ls memory s (ways * slot_of sum + way_of rest) before rest sum x y

pub length-remembered : (memory : List ℕ) (before rest sum : ℕ) → length (remembered memory before rest sum) ≡ length memory
length-remembered memory before rest sum = length-kept memory (ways * slot_of sum + way_of rest) before rest sum

-- Memories that keep nothing.
pub recalls-none : (all ls s : List ℕ) (n : ℕ) → Recalls all ls (replicate n 0) s
recalls-none all ls s n entry h some w m =
    let l : 3 * entry < n = omega (arith, length-replicate {A = ℕ} n 0) in
    absurd (some (get_or-replicate n (3 * entry) 0 0 l))

pub recalls-nothing : (all ls s : List ℕ) → Recalls all ls [] s
recalls-nothing all ls s entry h some w m = absurd (omega arith)
