-- Words that are lent from the first on are lent whole.
-- Assumes nothing.
use mathlib.Core.Path.{◌≡◌, ap, ◌∙◌}
use mathlib.Core.List.{List, ◌++◌, append-nil}
use Prim.Native.Nat.{ℕ, ◌-◌}
use native.Mathlib.Omega.{arith}
use lib.ListN.{length, take, drop, drop_of_length-le}
use lib.Seq.{take_all}

-- The words as they are lent, and all words when those are back.
abbrev pub lent : List ℕ → List ℕ
lent words = take (length words - 0) (drop 0 words)

abbrev pub back : List ℕ → List ℕ → List ℕ
back words now = now ++ drop (length words - 0) (drop 0 words)

pub lent_is : (words : List ℕ) → lent words ≡ words
lent_is words = take_all (length words - 0) words (omega arith)

pub back_is : (words now : List ℕ) → back words now ≡ now
back_is words now = ap (λ (l : List ℕ). now ++ l) (drop_of_length-le words {i = length words - 0} (omega arith)) ∙ append-nil now
