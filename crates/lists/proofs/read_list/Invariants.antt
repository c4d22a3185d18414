-- `lists::read_list` meets its contract: entry after entry, what was read and what is to come are the list.
-- Assumes nothing.
use mathlib.Core.Path.{◌≡◌}
use mathlib.Core.List.{List, map}
use Prim.Native.Nat.{◌*◌, ◌-◌, ◌≤◌}
use lib.ListN.{length}
use Rattle.table.specs.Decoded.{name_of}
use Rattle.grammar.specs.Forms.{comma}
use Rattle.lists.specs.Tallies.{Said}
use Rattle.lists.specs.Entries.{entry_of}
use Rattle.lists.specs.Starts.{Starting}
use Rattle.lists.specs.Lists.{weight_for, limit_for, word_count}
use Rattle.lists.proofs.Tallied.{Tallied}
use Rattle.lists.proofs.Gathered.{Progress}
use Rattle.lists.proofs.Listed.{Filled}
use Rattle.lists.proofs.read_list.Given as goal

-- Some entries were read; the tally, the count and the store are theirs. (Each took two bytes at least, with its comma.)
abbrev pub invariant-loop-entries : goal.invariant-loop-entries
invariant-loop-entries l =
    (es : List Said) × Progress comma (entry_of (map (name_of 8) l.names) l.kind) l.rest l.from es
    × Tallied (λ e. weight_for l.kind) (λ e. e.from) (limit_for l.kind) es l.tally
    × Filled l.kind l.initial.store es l.entries l.index l.store × (2 * l.entries ≤ l.from) × (l.shape.size ≡ word_count l.kind)
    × (l.shape.weight ≡ weight_for l.kind)
    × (l.shape.limit ≡ limit_for l.kind) × Starting l.names l.starts

abbrev pub decreases-loop-entries : goal.decreases-loop-entries
decreases-loop-entries l = length l.rest - l.from
