-- The number of a label: its digits to base 32 give the label back where counts are below 32, and its order is the order of labels.
-- Assumes nothing.
use mathlib.Core.Path.{◌≡◌, refl, sym, ap, ap₂, ◌∙◌, ◌≡⟨◌⟩◌, ◌∎}
use mathlib.Core.Logic.{inl, inr}
use mathlib.Core.List.{[], ◌∷◌}
use Prim.Native.Nat.{ℕ, zero, suc, ◌+◌, ◌*◌, ◌/◌, ◌%◌, ◌^◌, ◌≤◌, ◌<◌}
use native.Mathlib.Nat.{suc_inj, pow-suc, div-lt_iff_lt-mul}
use native.Mathlib.Omega.{arith}
use lib.Dec.{lit<}
use lib.ListN.{length}
use Rattle.meaning.specs.Labels.{Label, size, number, label_of}
use Rattle.meaning.specs.Legal.{Each}
use Rattle.meaning.proofs.Order.{◌≺◌}

-- every count is below 32
abbrev pub Small : Label → Type 0
Small a = Each (λ x. x < 32) a

pub size→small : (a : Label) → size a ≤ 31 → Small a
unfolding size
size→small [] h = tt
size→small (x ∷ a) h = (omega arith, size→small a (omega arith))

pub label_of-number : (a : Label) → Small a → label_of (length a) (number a) ≡ a
unfolding label_of number
label_of-number [] h = refl
label_of-number (x ∷ a) h =
    let lo : (x + 32 * number a) % 32 ≡ x = omega (arith, h.0) in
    let hi : (x + 32 * number a) / 32 ≡ number a = omega (arith, h.0) in
    ap₂ {C = Label} ◌∷◌ lo (ap (label_of (length a)) hi ∙ label_of-number a h.1)

pub number-injective : (a b : Label) → Small a → Small b → length a ≡ length b → number a ≡ number b → a ≡ b
number-injective a b p q l n =
    a
    ≡⟨ sym (label_of-number a p) ⟩ label_of (length a) (number a)
    ≡⟨ ap₂ label_of l n ⟩ label_of (length b) (number b)
    ≡⟨ label_of-number b q ⟩ b ∎

pub length-label_of : (names w : ℕ) → length (label_of names w) ≡ names
unfolding label_of
length-label_of zero w = refl
length-label_of (suc names) w = ap suc (length-label_of names (w / 32))

pub small-label_of : (names w : ℕ) → Small (label_of names w)
unfolding label_of
small-label_of zero w = tt
small-label_of (suc names) w = (omega arith, small-label_of names (w / 32))

pub number-label_of : (names w : ℕ) → w < 32 ^ names → number (label_of names w) ≡ w
unfolding label_of number
number-label_of zero w h = let k : w < 1 = h in omega arith
number-label_of (suc names) w h =
    let k : w / 32 < 32 ^ names = (div-lt_iff_lt-mul (lit< tt)).1 (rw (pow-suc 32 names) at h) in
    let ih = number-label_of names (w / 32) k in
    omega arith

pub number-below : (a b : Label) → Small a → Small b → length a ≡ length b → a ≺ b → number a < number b
unfolding number
number-below [] [] p q l h = absurd h
number-below [] (y ∷ b) p q l h = absurd (omega arith)
number-below (x ∷ a) [] p q l h = absurd h
number-below (x ∷ a) (y ∷ b) p q l (inl h) = let ih = number-below a b p.1 q.1 (suc_inj l) h in omega (arith, p.0)
number-below (x ∷ a) (y ∷ b) p q l (inr h) = omega (arith, ap number h.0, h.1)
