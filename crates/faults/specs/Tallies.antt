-- The tally of nothing, and one with one entry more.
-- Assumes nothing.
use Rattle.std.specs.Prelude.{◌≡◌, ℕ, ◌+◌, ◌%◌, ◌^◌, None, min, leb}
use Rattle.meaning.specs.Answers.{amount}
use Rattle.grammar.specs.Faults.{Found, worse, unless}
use Rattle.labels.specs.Packing.{code, packed}
use Rattle.faults.specs.CodedFaults.{found_of}
use Rattle.faults.specs.declared.Tally.{Tally}

abbrev pub empty_tally : Tally
empty_tally = record { fault = None; floor = packed 0; total = 0 }

-- a sum that stays in a word
abbrev pub plus_word : ℕ → ℕ → ℕ
plus_word a b = min (a + b) 18446744073709551615

pub record Counted (t : Tally) (found : Found) (key weight limit from : ℕ) (r : Tally) : Type 0 where
  pub faults : found_of r.fault
      ≡ worse (worse (found_of t.fault) found)
      (worse (unless (leb (code t.floor) key) amount from) (unless (leb (plus_word t.total weight) limit) amount from))
  pub floors : r.floor ≡ packed ((key + 1) % 2 ^ 124)
  pub totals : r.total ≡ min (plus_word limit 1) (plus_word t.total weight)
