-- Entries of two sides, as the code reads them: the left one first.
-- Assumes nothing.
use Rattle.std.specs.Prelude.{List, ℕ, leb}
use Rattle.meaning.specs.Bytes.{Text}
use Rattle.meaning.specs.Answers.{amount}
use Rattle.grammar.specs.Text.{Past, past, onward, Placed, placed, byte, word}
use Rattle.grammar.specs.Forms.{greater}
use Rattle.grammar.specs.Faults.{worse, unless, name_number, name_fault}
use Rattle.lists.specs.Tallies.{Said}

-- The left side of an entry, as what it says, with the name on its right.
abbrev pub with_right : List Text → Said → Placed Text → Said
with_right words l w =
    record { found = worse l.found (name_fault words w); first = l.first; second = name_number words w.it; from = l.from }

abbrev pub right_side : List Text → Said → Text → Past Said
right_side words l s = onward (onward (byte greater s) (λ _ q. placed word q)) (λ w p. past (with_right words l w) p)

-- A rule's left side has at least two actions; else the rule is at fault, at its place.
abbrev pub two_or_more : (from : ℕ) → Said → Said
two_or_more from l =
    record { found = worse l.found (unless (leb 2 l.second) amount from); first = l.first; second = l.second; from = l.from }
