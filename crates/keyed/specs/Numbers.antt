-- The number that a line holds.
-- Assumes nothing.
use Rattle.std.specs.Prelude.{Bool, ◌&&◌, ℕ, suc, ◌<◌, leb, ltb, Result, IfOk}
use Rattle.meaning.specs.Bytes.{Text}
use Rattle.grammar.specs.Reading.{Walk}
use Rattle.keyed.specs.Walks.{Walks}
use Rattle.words.specs.declared.Taken.{Taken}
use Rattle.keyed.specs.declared.BadLine.{BadLine}

-- The test of a number: from the first on and below the second.
abbrev pub between : ℕ → ℕ → ℕ → Bool
between low below n = leb low n && ltb n below

pub record NumberTo (text : Text) (line below : ℕ) (r : Result (Taken ℕ) BadLine) (due : Walk ℕ) : Type 0 where
  pub walks : Walks (λ n. n) text (suc line) r due
  pub bounded : IfOk r (λ t. t.value < below)
