-- The sums of rows that are lent from their first word on.
-- Assumes nothing.
use Rattle.std.proofs.Common.{◌≡◌, ℕ, List, Result}
use Rattle.areas.specs.Rows.{held}
use Rattle.areas.proofs.Lent.{lent, back, lent_is, back_is}
use Rattle.extents.specs.Extents.{at_start}
use Rattle.sets.specs.declared.TooLarge.{TooLarge}
use Rattle.sets.specs.Building.{GrownAt}
use Rattle.sums.specs.Sums.{sums_of}

-- Sums of lent rows that go into lent words.
abbrev pub SumsGo : (a b : List ℕ) (len : ℕ) (before after : List ℕ) → Result ℕ TooLarge → Type 0
SumsGo a b len before after r = GrownAt (at_start len) (λ room. sums_of room (held a) (held b)) (held before) (held after) r

pub sums-lent : {n len : ℕ} (a b before now : List ℕ) {r : Result ℕ TooLarge}
    → SumsGo (lent a) (lent b) n (lent before) now r → len ≡ n → SumsGo a b len before (back before now) r
sums-lent a b before now g e = rw (e, back_is before now) (rw (lent_is a, lent_is b, lent_is before) at g)
