-- What is counted of what a call says: all but the line and the column.
-- Assumes nothing.
use Rattle.meaning.specs.Answers as A
use Rattle.tally.specs.declared.Verdict.{Verdict}

abbrev pub counted : A.Verdict → Verdict
counted v = record { reason = v.reason; rounds = v.rounds; labels = v.labels }
