-- The laws that the proofs of whoever reads a section of lines cite; each file after those that it cites.
-- length-laid, laid_none, laid_one, laid_more, drop-laid, laid-held, get_d-laid, part-laid-before, part-put-back, lists-more: words over part of an area
pub mod Laid
-- names-after-counts, names-after-terms, names-after-foot, equations-after-counts: what stands where once a section is laid over the table
pub mod Places
-- operator-fits, list-fits: lists have at most 64 words
pub mod ListLengths
-- rest-within, rest-to, rest-bad, goes_on, stops-there: the rest of a text, and what follows a section of lines
pub mod Lent
-- number-to, number-bad: lines with a number, by their tests
pub mod Tests
-- SoFar, set-within, within_both: lines that are read alike, each with a word that is laid behind those before it
pub mod LaidLines
-- given-roomy, given-narrow: what is promised for areas of any lengths, by whether there is room; bad-first: what is returned where there
-- is none; room-told, no-room-told: what a test told
pub mod Given
-- walk-walk, ends-bad, ends_on: sections that are lines of the whole text
pub mod Joins
-- passes-once, comes-once, given-once: a section's answer is settled, and so is what it leaves where no line is bad
pub mod Uniqueness
