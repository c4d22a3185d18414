-- `printing::refusal_fits` meets its contract: no refusal is longer than 112 bytes. Any shorter room is held to the length of the
-- text, which fits in the scratch area.
-- Assumes nothing.
use mathlib.Core.Path.{refl, sym, ap}
use Prim.Native.Nat.{ℕ}
use native.Mathlib.Omega.{arith}
use borrow.Author.Tests.{le-leb}
use lib.Dec.{leb}
use lib.ListN.{length}
use Rattle.grammar.specs.Printed.{refused_text}
use Rattle.printing.proofs.Refusals.{length-refusal}
use Rattle.printing.proofs.refusal_fits.Goals as goal

pub returns-then-room-ge-LONGEST_REFUSAL : goal.returns-then-room-ge-LONGEST_REFUSAL
returns-then-room-ge-LONGEST_REFUSAL c =
    let a = c.args in
    sym (le-leb (length (refused_text a.reason a.line a.column)) a.room (omega (arith, length-refusal a.reason a.line a.column)))

pub slice_bounds-write_fitting_refusal-end : goal.slice_bounds-write_fitting_refusal-end
slice_bounds-write_fitting_refusal-end c = refl

pub write_fitting_refusal-requires : goal.write_fitting_refusal-requires
write_fitting_refusal-requires c = let a = c.args in length-refusal a.reason a.line a.column

pub returns : goal.returns
returns c = ap (λ (k : ℕ). leb k c.args.room) c.write_fitting_refusal.ensures.size
