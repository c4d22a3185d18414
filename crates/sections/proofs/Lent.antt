-- The rest of a text, as it is lent; and what follows a section of lines.
-- Assumes nothing.
use mathlib.Core.Path.{◌≡◌, sym, ap, ◌∙◌}
use Prim.Native.Nat.{ℕ, ◌+◌, ◌≤◌}
use native.Mathlib.Omega.{arith}
use lib.ListN.{length, drop, length-drop}
use lib.Seq.{drop-drop}
use Rattle.meaning.specs.Bytes.{Text}
use Rattle.words.proofs.Steps.{rest_at, rest-drop}
use Rattle.grammar.specs.Reading.{Flaw, Walk, reached, halted, walk}

module _ (text : Text) (from : ℕ) (h : from ≤ length text) where
  drop-rest : (took : ℕ) → drop took (rest_at text from) ≡ drop (from + took) text
  drop-rest took = rw (rest-drop text from h) (drop-drop took from text)

  pub rest-within : {took : ℕ} → took ≤ length (rest_at text from) → from + took ≤ length text
  rest-within k = let l = ap length (rest-drop text from h) ∙ length-drop from text in omega arith

  -- what the rest comes to, as the text's from that place on
  module _ {A : Type 0} (due : Text → Walk A) where
    pub rest-to : {a : A} {line : ℕ} (took : ℕ) → reached a line (drop took (rest_at text from)) ≡ due (rest_at text from)
        → reached a line (drop (from + took) text) ≡ due (drop from text)
    rest-to {a} {line} took q = ap (reached a line) (sym (drop-rest took)) ∙ q ∙ ap due (rest-drop text from h)

    pub rest-bad : {f : Flaw} {line : ℕ} → halted f line ≡ due (rest_at text from) → halted f line ≡ due (drop from text)
    rest-bad q = q ∙ ap due (rest-drop text from h)

-- What follows lines that were read, and what a bad line leaves of it.
module _ {A B : Type 0} {due : Walk A} (g : A → ℕ → Text → Walk B) where
  pub goes_on : {a : A} {line : ℕ} {s : Text} {w : Walk B} → reached a line s ≡ due → w ≡ g a line s → w ≡ walk due g
  goes_on q e = e ∙ ap (λ d. walk d g) q

  pub stops-there : {f : Flaw} {line : ℕ} → halted f line ≡ due → halted f line ≡ walk due g
  stops-there q = ap (λ d. walk d g) q
