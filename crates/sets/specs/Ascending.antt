-- Whether a list of numbers ascends, as a test: `Rising` of `meaning` is the same as a statement.
-- Assumes nothing.
use Rattle.std.specs.Prelude.{Bool, true, ◌&&◌, List, [], ◌∷◌, ℕ, ltb}

-- Each number is below the one after it.
unfoldable pub rises : List ℕ → Bool
rises [] = true
rises (x ∷ []) = true
rises (x ∷ y ∷ s) = ltb x y && rises (y ∷ s)
