-- The order of labels is a strict order of all labels, and `order` tells it.
-- Assumes nothing.
use mathlib.Core.Path.{◌≡◌, refl, sym, ap₂, subst}
use mathlib.Core.Logic.{◌⊎◌, inl, inr}
use mathlib.Core.List.{[], ◌∷◌}
use Prim.Native.Nat.{ℕ, ◌<◌, compare, Ordering}
use native.Mathlib.Nat.{lt_irrefl, lt_trans}
use lib.Dec.{T, compare_is_eq}
use Rattle.meaning.specs.Labels.{Label, order, decided}
use Rattle.meaning.proofs.Tests.{Says, compare-says}

infix 40 ◌≺◌
abbrev pub ◌≺◌ : Label → Label → Type 0
[] ≺ [] = ⊥
[] ≺ (y ∷ b) = Unit {0}
(x ∷ a) ≺ [] = ⊥
(x ∷ a) ≺ (y ∷ b) = (a ≺ b) ⊎ ((a ≡ b) × (x < y))

pub ≺-irrefl : (a : Label) → a ≺ a → ⊥
≺-irrefl [] h = h
≺-irrefl (x ∷ a) (inl h) = ≺-irrefl a h
≺-irrefl (x ∷ a) (inr h) = lt_irrefl x h.1

pub ≺-trans : (a b c : Label) → a ≺ b → b ≺ c → a ≺ c
≺-trans [] [] c h k = absurd h
≺-trans [] (y ∷ b) [] h k = k
≺-trans [] (y ∷ b) (z ∷ c) h k = tt
≺-trans (x ∷ a) [] c h k = absurd h
≺-trans (x ∷ a) (y ∷ b) [] h k = k
≺-trans (x ∷ a) (y ∷ b) (z ∷ c) (inl h) (inl k) = inl (≺-trans a b c h k)
≺-trans (x ∷ a) (y ∷ b) (z ∷ c) (inl h) (inr k) = inl (subst (λ (e : Label). a ≺ e) k.0 h)
≺-trans (x ∷ a) (y ∷ b) (z ∷ c) (inr h) (inl k) = inl (subst (λ (e : Label). e ≺ c) (sym h.0) k)
≺-trans (x ∷ a) (y ∷ b) (z ∷ c) (inr h) (inr k) = inr (rw h.0 k.0, lt_trans h.1 k.1)

decided-says : (o p : Ordering) (x y : ℕ) (a b : Label) → Says ◌≺◌ o a b → Says ◌<◌ p x y → Says ◌≺◌ (decided o p) (x ∷ a) (y ∷ b)
decided-says Ordering.lt p x y a b h k = inl h
decided-says Ordering.eq Ordering.lt x y a b h k = inr (h, k)
decided-says Ordering.eq Ordering.eq x y a b h k = ap₂ {C = Label} ◌∷◌ k h
decided-says Ordering.eq Ordering.gt x y a b h k = inr (sym h, k)
decided-says Ordering.gt p x y a b h k = inl h

pub order-says : (a b : Label) → Says ◌≺◌ (order a b) a b
unfolding order
order-says [] [] = refl
order-says [] (y ∷ b) = tt
order-says (x ∷ a) [] = tt
order-says (x ∷ a) (y ∷ b) = decided-says (order a b) (compare x y) x y a b (order-says a b) (compare-says x y)

-- The test of equality of two labels.
eq-says : (o : Ordering) (a b : Label) → Says ◌≺◌ o a b → T (compare_is_eq o) → a ≡ b
eq-says Ordering.lt a b h t = absurd t
eq-says Ordering.eq a b h t = h
eq-says Ordering.gt a b h t = absurd t

pub same→eq : (a b : Label) → T (compare_is_eq (order a b)) → a ≡ b
same→eq a b t = eq-says (order a b) a b (order-says a b) t

says_eq : (o : Ordering) (a : Label) → Says ◌≺◌ o a a → T (compare_is_eq o)
says_eq Ordering.lt a h = ≺-irrefl a h
says_eq Ordering.eq a h = tt
says_eq Ordering.gt a h = ≺-irrefl a h

pub eq→same : (a b : Label) → a ≡ b → T (compare_is_eq (order a b))
eq→same a b e = subst (λ (c : Label). T (compare_is_eq (order a c))) e (says_eq (order a a) a (order-says a a))
