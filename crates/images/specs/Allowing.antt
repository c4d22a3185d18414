-- Which labels a list of labels lets pass.
-- Assumes nothing.
use Rattle.std.specs.Prelude.{Bool, ◌||◌, List, ℕ, eqb}
use Rattle.sets.specs.Inserting.{present}

-- what a list lets pass: what is found in it by search, which in an ascending list is what it has, and tau, whose number is 0
abbrev pub allowed_in : ℕ → List ℕ → Bool
allowed_in w list = eqb w 0 || present list w
