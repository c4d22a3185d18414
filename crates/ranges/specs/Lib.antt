-- The range of a term's numbers, as the code is given them.
pub mod Ranges
