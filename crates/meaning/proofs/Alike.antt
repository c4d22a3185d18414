-- The law by which a promise settles its result: what is equal to the same is equal, also where it is seen through a map that
-- can be gone back.
-- Assumes nothing.
use mathlib.Core.Path.{◌≡◌, sym, ap, ◌∙◌, ◌≡⟨◌⟩◌, ◌∎}

pub alike : {A : Type 0} {a b c : A} → a ≡ c → b ≡ c → a ≡ b
alike p q = p ∙ sym q

pub alike-through : {A B : Type 0} (f : A → B) (back : B → A) → ((a : A) → back (f a) ≡ a) → {a b : A} {c : B} → f a ≡ c → f b ≡ c → a ≡ b
alike-through f back returns {a} {b} p q =
    a
    ≡⟨ sym (returns a) ⟩ back (f a)
    ≡⟨ ap back (alike p q) ⟩ back (f b)
    ≡⟨ returns b ⟩ b ∎
