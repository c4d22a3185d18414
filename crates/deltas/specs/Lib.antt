-- What is new in the sets of a round.
-- less_labels, arrived: the labels of this round's set that the round before's did not have; mixed: the sets while a round is
-- worked out; over_in: past a limit, where all sets together may have so many labels
pub mod Deltas
