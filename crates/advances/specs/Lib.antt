-- A term in a round.
-- Logged, Midway: what stands where while a round is worked out; Kept, Advanced: what advancing a term comes to
pub mod Advances
-- Appended, TakenIn, KeptNew: new labels behind the end of the log, and in the set of their term
pub mod Keeping
