-- `labels::bags::word_has` meets its contract. The loop's invariant: what is left of the words compares as the words do; the
-- measure is what is left of the first. Assumes nothing.
use Rattle.meaning.specs.Labels.{label_of}
use Rattle.labels.specs.Bags.{as_much}
use Rattle.labels.proofs.Words.{Compared}
use Rattle.labels.proofs.bags.word_has.Given as goal

abbrev pub invariant-loop-names : goal.invariant-loop-names
invariant-loop-names l = Compared l.names l.a l.b (as_much (label_of 13 l.named) (label_of 13 l.small) (label_of 13 l.large))

abbrev pub decreases-loop-names : goal.decreases-loop-names
decreases-loop-names l = l.names
