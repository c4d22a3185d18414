-- What follows the word of any kind.
-- Assumes nothing.
use Rattle.std.specs.Prelude.{List, map, ℕ, ltb}
use Rattle.meaning.specs.Bytes.{Text}
use Rattle.meaning.specs.Rounds.{pick}
use Rattle.table.specs.Decoded.{name_of}
use Rattle.grammar.specs.Text.{Past}
use Rattle.grammar.specs.Forms.{Line, of_list}
use Rattle.lists.specs.Entries.{with_few}
use Rattle.tails.specs.Lines.{LineRead}
use Rattle.tails.specs.Plains.{plain_tail}
use Rattle.tails.specs.Wraps.{wrap_of, contents, wrap_listed}
use Rattle.ranges.specs.declared.Bounds.{Bounds}
use Rattle.tails.specs.declared.TermLine.{TermLine}
use Rattle.words.specs.Steps.{Reading}

-- by the kind's place among all kinds: the first twelve have no list
abbrev pub tail_of : ℕ → Text → Past Line
tail_of k s = pick (ltb k 12) (plain_tail k s) (of_list (contents (wrap_of k)) (wrap_listed (wrap_of k)) s)

abbrev pub TailRead : List ℕ → Bounds → (k : ℕ) → Text → (before after : List ℕ) → Reading TermLine → Type 0
TailRead names bounds k text before after r =
    LineRead (map (name_of 8) names) bounds text (with_few names (tail_of k text) text) before after r
