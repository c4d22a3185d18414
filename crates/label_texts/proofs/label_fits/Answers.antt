-- `label_texts::label_fits` meets its contract: no label is longer than the longest, and any other room is held to its length.
-- Assumes nothing.
use mathlib.Core.Path.{sym, ap}
use Prim.Native.Nat.{ℕ}
use native.Mathlib.Omega.{arith}
use borrow.Author.Tests.{le-leb}
use lib.Dec.{leb}
use lib.ListN.{length}
use Rattle.labels.specs.Packing.{code}
use Rattle.grammar.specs.Printed.{printed_label}
use Rattle.label_texts.specs.Packed.{name_texts, counts_of}
use Rattle.label_texts.proofs.Tau.{length_label}
use Rattle.label_texts.proofs.label_fits.Goals as goal

pub returns-then-room-ge-LONGEST_LABEL : goal.returns-then-room-ge-LONGEST_LABEL
returns-then-room-ge-LONGEST_LABEL c =
    let a = c.args in
    sym (le-leb (length (printed_label (name_texts a.names) (counts_of (code a.label)))) a.room
    (omega (arith, length_label a.names (code a.label))))

pub label_length-requires : goal.label_length-requires
label_length-requires c = tt

pub returns : goal.returns
returns c = ap (λ (k : ℕ). leb k c.args.room) c.label_length.ensures
