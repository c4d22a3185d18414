-- The laws of the lines of terms; each file after those that it cites.
-- line-stuck, line-faulty, line-fine: a term's line, by what its reader came to
pub mod TermLines
-- TermsSoFar, terms-start, terms-step, terms-halt, terms-end: the terms so far; terms-refused: those for which there is no room
pub mod StoredTerms
-- terms-once: any two answers that meet the promise are equal, and so are the areas where no line is bad
pub mod Uniqueness
