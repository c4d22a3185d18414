-- `sums::seen::enter_once` meets its contract. Assumes nothing.
use Rattle.std.proofs.Common.{sym, refl, ◌∙◌}
use Rattle.labels.specs.Packing.{code}
use Rattle.sets.proofs.Steps.{handed_on}
use Rattle.sums.proofs.SeenLaws.{passed_over, grown-stops, now-kept}
use Rattle.sums.proofs.seen.enter_once.Goals as goal

pub returns-then-is_kept : goal.returns-then-is_kept
returns-then-is_kept c =
    passed_over c.slot-at.result (code c.args.label) c.requires (sym c.if-is_kept.true ∙ c.is_kept.ensures)
    c.reach.ensures

pub returns : goal.returns
returns c =
    rw c.write_label.ensures
    (now-kept c.slot-at.result (code c.args.label) c.requires (rw c.at_start.ensures at c.in_ok-count.ensures) refl)
