-- The figures, worked out from a list of verdicts
pub mod Figures
-- What an addition comes to, and which are left out
pub mod Additions
-- Any sequence of additions
pub mod Sequences
-- Where the figure of a refusal stands
pub mod Steps
