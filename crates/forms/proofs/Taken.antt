-- A term's line with its faults is the answer about it: the store keeps its length.
-- Assumes nothing.
use mathlib.Core.Path.{◌≡◌}
use mathlib.Core.List.{List}
use Prim.Native.Nat.{ℕ}
use lib.ListN.{length}
use Rattle.meaning.specs.Bytes.{Text}
use Rattle.grammar.specs.Text.{Past}
use Rattle.grammar.specs.Forms.{Line}
use Rattle.tails.specs.Lines.{LineRead}
use Rattle.ranges.specs.declared.Bounds.{Bounds}
use Rattle.std.specs.Prelude.{Ok, Err}
use Rattle.words.specs.Steps.{Reading}
use Rattle.tails.specs.declared.TermLine.{TermLine}
use Rattle.forms.specs.Terms.{TermRead}

pub line_taken : (words : List Text) (bounds : Bounds) (text : Text) (due : Past Line) (before after : List ℕ) (r : Reading TermLine)
    → length after ≡ length before
    → LineRead words bounds text due before after r
    → TermRead words bounds.equations bounds.term text due before after r
line_taken words bounds text due before after (Ok t) h l =
    record { line = l.line; says = l.says; within = l.within; term = l.term; faults = l.faults; stored = l.stored; long = h }
line_taken words bounds text due before after (Err p) h s = (s.says, h)
