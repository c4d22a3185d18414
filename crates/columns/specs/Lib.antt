-- Columns in the request's words: where a line stops having its form, and which of the faults of a line of right form is told.
-- IsLine, Begins, Longest: the longest beginning of a text with which some line of a form begins
pub mod Farthest
-- Plan, description: the lines that are due, one after the other; Wrong: the line that has no right form, and its column
pub mod Plans
-- term_faults, order_faults: all faults of a line of right form; Decides: the smallest number, then its leftmost place
pub mod Leftmost
