-- `sums::take_sum` meets its contract. Assumes nothing.
use Rattle.std.proofs.Common.{sym, refl}
use Rattle.areas.specs.Rows.{held}
use Rattle.parts.proofs.LaidSets.{laid-self}
use Rattle.sets.proofs.Steps.{handed_on}
use Rattle.sums.proofs.SeenLaws.{grown-stops}
use Rattle.sums.proofs.take_sum.Goals as goal

pub returns-in_err-total : goal.returns-in_err-total
returns-in_err-total c =
    let a = c.args in
    rw (handed_on c.from_residual.result c.from_residual.ensures.0, c.in_err-total.ensures.ok_part)
    (grown-stops (record { answer = refl; words = sym (laid-self 0 a.len (held a.out.now)) }) refl)
