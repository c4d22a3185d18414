-- How many labels the sets have together: of a round, and while a round is worked out.
-- Assumes nothing.
use mathlib.Core.Path.{◌≡◌, refl, sym, ap, ◌∙◌, fun_ext}
use mathlib.Core.List.{List, [], ◌∷◌}
use Prim.Native.Nat.{ℕ, zero, suc, ◌+◌, ◌≤◌, ◌<◌, zero-le}
use native.Mathlib.Nat.{le_refl}
use native.Mathlib.Decide.{dec_lt}
use native.Mathlib.Omega.{arith}
use borrow.Author.Tests.{lt-ltb, le-ltb}
use lib.ListN.{length, take, get_or-eq_default}
use lib.Seq.{take_all}
use Rattle.meaning.specs.Labels.{Label}
use Rattle.meaning.specs.Sets.{at}
use Rattle.meaning.specs.Descriptions.{Description, term_count}
use Rattle.meaning.specs.Rounds.{round_sets}
use Rattle.meaning.specs.Limits.{total}
use Rattle.meaning.proofs.Growth.{round-length}
use Rattle.deltas.specs.Deltas.{arrived, mixed, labels_in}
use Rattle.deltas.proofs.News.{arrived-length}

-- Sets of which each has as many labels as another, or at most as many, or all but one.
labels-most : (m : ℕ) (f g : ℕ → List Label) → ((t : ℕ) → t < m → length (f t) ≤ length (g t)) → labels_in m f ≤ labels_in m g
unfolding labels_in
labels-most zero f g h = zero-le
labels-most (suc m) f g h = let e = labels-most m f g (λ t l. h t (omega arith)) in let k = h m (le_refl (suc m)) in omega arith

pub labels-same : (m : ℕ) (f g : ℕ → List Label) → ((t : ℕ) → t < m → length (f t) ≡ length (g t)) → labels_in m f ≡ labels_in m g
labels-same m f g h =
    let there = labels-most m f g (λ t l. let e = h t l in omega arith) in
    let back = labels-most m g f (λ t l. let e = h t l in omega arith) in
    omega arith

labels-more : (m n more : ℕ) (f g : ℕ → List Label) → n < m → ((t : ℕ) → t < m → (t ≡ n → ⊥) → length (f t) ≡ length (g t))
    → length (g n) ≡ length (f n) + more → labels_in m g ≡ labels_in m f + more
unfolding labels_in
labels-more zero n more f g less others one = absurd (omega arith)
labels-more (suc m) n more f g less others one = elim (dec_lt n m) [
  | yes l ↦
      let e = labels-more m n more f g l (λ t h. others t (omega arith)) one in
      let last = others m (le_refl (suc m)) (λ k. omega arith) in
      omega arith
  | no l ↦
      let here : n ≡ m = omega arith in
      let e = labels-same m f g (λ t h. others t (omega arith) (λ k. omega arith)) in
      let last : length (g m) ≡ length (f m) + more = rw here at one in
      omega arith
]

-- The sets of a list, of which there are no more.
total-take : (sets : List (List Label)) (i : ℕ) → total (take (suc i) sets) ≡ total (take i sets) + length (at sets i)
unfolding total
total-take [] zero = refl
total-take [] (suc i) = refl
total-take (s ∷ sets) zero = omega arith
total-take (s ∷ sets) (suc i) = let ih = total-take sets i in omega arith

labels-take : (sets : List (List Label)) (m : ℕ) → labels_in m (at sets) ≡ total (take m sets)
unfolding labels_in total
labels-take sets zero = refl
labels-take sets (suc m) = ap (λ (n : ℕ). n + length (at sets m)) (labels-take sets m) ∙ sym (total-take sets m)

pub labels-total : (sets : List (List Label)) (m : ℕ) → length sets ≤ m → labels_in m (at sets) ≡ total sets
labels-total sets m h = labels-take sets m ∙ ap total (take_all m sets h)

pub round-labels : (d : Description) (k : ℕ) → labels_in (term_count d) (at (round_sets d k)) ≡ total (round_sets d k)
round-labels d k = labels-total (round_sets d k) (term_count d) (round-length d k)

-- While a round is worked out: a term that is done, and one that is not.
module _ (d : Description) (k : ℕ) where
  pub mixed-new : (n t : ℕ) → t < n → mixed d k n t ≡ at (round_sets d (suc k)) t
  mixed-new n t h = rw (lt-ltb t n h)

  pub mixed-old : (n t : ℕ) → n ≤ t → mixed d k n t ≡ at (round_sets d k) t
  mixed-old n t h = rw (le-ltb t n h)

  -- before the first term the sets are those of the round before, behind the last those of this round
  pub mixed-none : (t : ℕ) → mixed d k 0 t ≡ at (round_sets d k) t
  mixed-none t = mixed-old 0 t zero-le

  pub mixed-all : (t : ℕ) → mixed d k (term_count d) t ≡ at (round_sets d (suc k)) t
  mixed-all t = elim (dec_lt t (term_count d)) [
    | yes h ↦ mixed-new (term_count d) t h
    | no h ↦
        mixed-old (term_count d) t (omega arith)
        ∙ get_or-eq_default (round_sets d k) [] (omega (arith, round-length d k))
        ∙ sym (get_or-eq_default (round_sets d (suc k)) [] (omega (arith, round-length d (suc k))))
  ]

  -- one term more
  pub mixed-other : (n t : ℕ) → (t ≡ n → ⊥) → mixed d k n t ≡ mixed d k (suc n) t
  mixed-other n t h = elim (dec_lt t n) [
    | yes l ↦ mixed-new n t l ∙ sym (mixed-new (suc n) t (omega arith))
    | no l ↦ mixed-old n t (omega arith) ∙ sym (mixed-old (suc n) t (omega arith))
  ]

  pub labels-advanced : (n : ℕ) → n < term_count d
      → labels_in (term_count d) (mixed d k (suc n)) ≡ labels_in (term_count d) (mixed d k n) + length (arrived d (suc k) n)
  labels-advanced n h =
      labels-more (term_count d) n (length (arrived d (suc k) n)) (mixed d k n) (mixed d k (suc n)) h (λ t l o. ap length (mixed-other n t o))
      (ap length (mixed-new (suc n) n (le_refl (suc n))) ∙ arrived-length d k n
      ∙ ap (λ (s : List Label). length s + length (arrived d (suc k) n)) (sym (mixed-old n n (le_refl n))))

  pub labels-start : labels_in (term_count d) (mixed d k 0) ≡ total (round_sets d k)
  labels-start = labels-same (term_count d) (mixed d k 0) (at (round_sets d k)) (λ t h. ap length (mixed-none t)) ∙ round-labels d k

  pub labels-end : labels_in (term_count d) (mixed d k (term_count d)) ≡ total (round_sets d (suc k))
  labels-end =
      labels-same (term_count d) (mixed d k (term_count d)) (at (round_sets d (suc k))) (λ t h. ap length (mixed-all t)) ∙ round-labels d (suc k)

  pub labels-bound : (n : ℕ) → labels_in (term_count d) (mixed d k n) ≤ total (round_sets d (suc k))
  labels-bound n =
      let all = round-labels d (suc k) in
      let each : labels_in (term_count d) (mixed d k n) ≤ labels_in (term_count d) (at (round_sets d (suc k))) =
      labels-most (term_count d) (mixed d k n) (at (round_sets d (suc k))) (λ t h. elim (dec_lt t n) [
        | yes l ↦ let e = ap length (mixed-new n t l) in omega arith
        | no l ↦ let e = ap length (mixed-old n t (omega arith)) in let g = arrived-length d k t in omega arith
      ]) in
      omega arith

-- What a round ends with the next begins with.
pub mixed-next : (d : Description) (k : ℕ) → mixed d k (term_count d) ≡ mixed d (suc k) 0
mixed-next d k = fun_ext (λ t. mixed-all d k t ∙ sym (mixed-none d (suc k) t))
