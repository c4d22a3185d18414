-- A label packed in two words.
-- Assumes nothing.
use Rattle.std.specs.Prelude.{ℕ, ◌+◌, ◌*◌, ◌^◌}
use Rattle.meaning.specs.Labels.{lower_word, upper_word}
use Rattle.labels.specs.declared.Label.{Label}

-- The number by which a packed label is known and ordered, and the packed label of a number. What stands in a lower word above the
-- names' bits is passed over.
unfoldable pub code : Label → ℕ
code a = lower_word a.lower + 2 ^ 60 * a.upper

unfoldable pub packed : ℕ → Label
packed n = record { lower = lower_word n; upper = upper_word n }
