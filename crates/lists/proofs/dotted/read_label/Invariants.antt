-- `lists::dotted::read_label` meets its contract: part after part, what was read and what is to come are the label.
-- Assumes nothing.
use mathlib.Core.Path.{◌≡◌}
use mathlib.Core.List.{List, map}
use Prim.Native.Nat.{ℕ, ◌-◌}
use lib.ListN.{length}
use Rattle.meaning.specs.Bytes.{Text}
use Rattle.meaning.specs.Legal.{Each}
use Rattle.labels.specs.Packing.{code}
use Rattle.table.specs.Decoded.{name_of}
use Rattle.grammar.specs.Forms.{part, dot}
use Rattle.grammar.specs.Text.{Past}
use Rattle.lists.specs.Tallies.{Said}
use Rattle.lists.specs.Entries.{seen, part_said}
use Rattle.lists.proofs.Tallied.{Tallied}
use Rattle.lists.proofs.Gathered.{Progress}
use Rattle.lists.proofs.Parts.{Known, sizes, parts_number}
use Rattle.lists.proofs.dotted.read_label.Given as goal

-- a part of the label that a text begins with
abbrev pub part_in : List ℕ → Text → Text → Past Said
part_in names rest = seen (part_said (map (name_of 8) names) (length rest)) part

-- Some parts were read; the tally and the number are theirs.
abbrev pub invariant-loop-said : goal.invariant-loop-said
invariant-loop-said l =
    (es : List Said) × Progress dot (part_in l.names l.rest) l.rest l.from es × Tallied sizes (λ e. length l.rest) 31 es l.tally × Each Known es
    × (code l.label ≡ parts_number (length l.rest) es)

abbrev pub decreases-loop-said : goal.decreases-loop-said
decreases-loop-said l = length l.rest - l.from
