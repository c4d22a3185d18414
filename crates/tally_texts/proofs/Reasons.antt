-- The figures of the refusals one by one, and the line of each.
-- Assumes nothing.
use mathlib.Core.Path.{◌≡◌, refl, ap₂}
use mathlib.Core.List.{List, [], ◌∷◌, ◌++◌, append_assoc}
use Prim.Native.Nat.{ℕ, ◌+◌}
use native.Mathlib.Omega.{arith}
use lib.ListN.{length}
use Rattle.std.specs.List.{fold, sum}
use Rattle.meaning.specs.Bytes.{ascii}
use Rattle.meaning.specs.Labels.{size}
use Rattle.grammar.specs.Marks.{decimal}
use Rattle.grammar.specs.Printed.{line}
use Rattle.tally_texts.specs.Texts.{reason_key, reason_lines}

-- The library adds up from the first on, and `size` from the last.
sum-onwards : (k : ℕ) (figures : List ℕ) → fold (λ a x. a + x) k figures ≡ k + size figures
unfolding size
sum-onwards k [] = omega arith
sum-onwards k (x ∷ figures) = omega (arith, sum-onwards (k + x) figures)

pub sum-size : (figures : List ℕ) → sum figures ≡ size figures
sum-size figures = omega (arith, sum-onwards 0 figures)

-- The line of a refusal: a word, its number, and a line whose key is the sign behind them.
pub reason-joined : (number n : ℕ) → ascii "reason" ++ (decimal number ++ line (ascii "=") (decimal n)) ≡ line (reason_key number) (decimal n)
reason-joined number n = simp append_assoc

-- The first line of those to come, and the lines behind it; none where numbers or figures are used up.
pub next-reason : {n x : ℕ} {numbers ns figures xs : List ℕ} → numbers ≡ n ∷ ns → figures ≡ x ∷ xs →
    reason_lines numbers figures ≡ line (reason_key n) (decimal x) ++ reason_lines ns xs
unfolding reason_lines
next-reason e f = ap₂ reason_lines e f

pub no-numbers : (numbers figures : List ℕ) → length numbers ≡ 0 → reason_lines numbers figures ≡ []
unfolding reason_lines
no-numbers [] figures e = refl
no-numbers (n ∷ ns) figures e = absurd (omega arith)

pub no-figures : (numbers figures : List ℕ) → length figures ≡ 0 → reason_lines numbers figures ≡ []
unfolding reason_lines
no-figures [] figures e = refl
no-figures (n ∷ ns) [] e = refl
no-figures (n ∷ ns) (x ∷ xs) e = absurd (omega arith)
