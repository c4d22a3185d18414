-- The text of a tally
pub mod Texts
