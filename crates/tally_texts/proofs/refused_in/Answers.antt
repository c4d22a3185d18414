-- `tally_texts::refused_in` meets its contract: the sum of seven figures of half a word each is below a word.
-- Assumes nothing.
use mathlib.Core.Path.{◌≡◌, ◌∙◌}
use Rattle.std.specs.List.{sum}
use Rattle.std.proofs.Common.{rules}
use Rattle.std.proofs.iter.runs.Sources.{sums}
use Rattle.tally_texts.proofs.Reasons.{sum-size}
use Rattle.tally_texts.proofs.refused_in.Goals as goal

pub sum-requires-clause-fits : goal.sum-requires-clause-fits
sum-requires-clause-fits c = search (rules, sums)

pub returns : goal.returns
returns c = let added : c.sum.result ≡ sum c.args.refusals = search rules in added ∙ sum-size c.args.refusals
