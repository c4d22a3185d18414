-- Sections that are lines of the whole text.
-- Assumes nothing.
use mathlib.Core.Path.{◌≡◌, refl, ap}
use Prim.Native.Nat.{ℕ}
use Rattle.meaning.specs.Bytes.{Text}
use Rattle.grammar.specs.Reading.{Flaw, Walk, reached, halted, walk, bad_line, Whole, described}

-- What follows a step and what follows that.
pub walk-walk : {A B C : Type 0} (w : Walk A) (f : A → ℕ → Text → Walk B) (g : B → ℕ → Text → Walk C) (h : A → ℕ → Text → Walk C)
    → ((a : A) (line : ℕ) (s : Text) → walk (f a line s) g ≡ h a line s) → walk (walk w f) g ≡ walk w h
walk-walk (reached a line s) f g h e = e a line s
walk-walk (halted x line) f g h e = refl

-- A step that ends the reading, and one after which it goes on.
module _ {A : Type 0} {due : Walk A} (k : A → ℕ → Text → Walk Whole) where
  pub ends-bad : {f : Flaw} {line : ℕ} → halted f line ≡ due → bad_line f line ≡ described (walk due k)
  ends-bad q = ap (λ w. described (walk w k)) q

  pub ends_on : {a : A} {line : ℕ} {s : Text} → reached a line s ≡ due → described (k a line s) ≡ described (walk due k)
  ends_on q = ap (λ w. described (walk w k)) q
