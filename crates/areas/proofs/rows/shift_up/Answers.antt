-- `areas::rows::shift_up` meets its contract. Assumes nothing.
use mathlib.Core.Path.{◌∙◌}
use native.Mathlib.Omega.{arith}
use Rattle.areas.proofs.Moves.{copied_up}
use Rattle.areas.proofs.rows.shift_up.Goals as goal

pub returns : goal.returns
returns c = c.copy_within.ensures.after ∙ copied_up c.args.words.now (omega arith)
