-- What the type of a tally says of its figures
pub mod Held
-- Where the figure of a refusal stands, and what one more there makes of the figures
pub mod Places
-- Which verdicts a call may give, test by test
pub mod Givens
-- Whether the figures with one verdict more fit
pub mod Room
-- The three cases of an addition
pub mod Cases
-- The figures of two lists, one behind the other
pub mod Sums
-- What holds after any sequence of additions
pub mod Sequences
-- Additions worked out by the checker
pub mod Examples
