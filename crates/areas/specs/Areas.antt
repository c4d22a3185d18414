-- Areas of words: the first so many of them 0, or words put there, and the rest as they were.
-- Assumes nothing.
use Rattle.std.specs.Prelude.{List, [], ◌∷◌, ◌++◌, ℕ, zero, suc, length, drop}

unfoldable pub zeroed : ℕ → List ℕ → List ℕ
zeroed zero ws = ws
zeroed (suc n) [] = []
zeroed (suc n) (w ∷ ws) = 0 ∷ zeroed n ws

-- words put at the start of an area, whose further words stay
abbrev pub put : List ℕ → List ℕ → List ℕ
put ws area = ws ++ drop (length ws) area
