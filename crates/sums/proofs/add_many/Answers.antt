-- `sums::add_many` meets its contract: a table whose slots are all empty keeps nothing, and so does one with no slots. Assumes nothing.
use Rattle.std.proofs.Common.{ℕ, List, sym, ◌∙◌, subst, arith}
use Rattle.areas.specs.Rows.{held}
use Rattle.areas.proofs.Held.{held-zeros, held_none}
use Rattle.parts.specs.Parts.{set_at}
use Rattle.sets.proofs.Presence.{rises→}
use Rattle.sums.specs.Seen.{Kept}
use Rattle.sums.proofs.SeenLaws.{kept-none, kept-nowhere}
use Rattle.sums.proofs.add_many.Goals as goal

pub add_each-requires : goal.add_each-requires
add_each-requires c =
    let s = set_at 0 c.args.len (held c.args.out.now) in
    let rising = rises→ _ (sym c.ascends.ensures ∙ c.if-ascends.true) in (
      subst (λ (seen : List ℕ). Kept seen s) (sym (held-zeros 3709)) (kept-none 3709 s rising),
      omega (arith, c.largest.ensures.0),
      c.largest.ensures.1,
    )

pub add_each-requires-2 : goal.add_each-requires-2
add_each-requires-2 c =
    let a = c.args in (
      kept-nowhere _ (set_at 0 a.len (held a.out.now)) (rw held_none (omega arith)),
      omega (arith, c.largest-2.ensures.0),
      c.largest-2.ensures.1,
    )
