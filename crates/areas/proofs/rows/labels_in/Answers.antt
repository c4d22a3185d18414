-- `areas::rows::labels_in` meets its contract. Assumes nothing.
use mathlib.Core.Path.{sym}
use Rattle.areas.proofs.Held.{length-held}
use Rattle.areas.proofs.rows.labels_in.Goals as goal

pub returns : goal.returns
returns c = sym (length-held _)
