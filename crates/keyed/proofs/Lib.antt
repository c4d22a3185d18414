-- The laws that the proofs of this crate's functions cite, and those of whoever reads on; each file after those that it cites.
-- item-last, place-fits: a key, an item and the LF
pub mod Ends
-- gone-to, gone-within, gone-bad, gone-before, gone-below, line-bad, number_to-bad: what a step over a line says, by its case
pub mod Walks
-- lines_start, lines_step, lines-halt, lines_end: lines that are read alike
pub mod Sequences
-- formed-stuck, found-fine, found-faulty, taken_fine, taken-faulty: what a line gives, by where it was stuck and by the fault that was found
pub mod LineFaults
-- number-stuck, number-low, number-high, number-between: what `take_number` gives, by the line's form and its number
pub mod NumberLines
-- name-stuck, name-held, name_free: what `take_name` gives, by the line's form and its name
pub mod NameLines
-- name_number-three, is_free-held, is_free-new: a name is free if it is none of the earlier ones and none of three words
pub mod Freedom
-- bad-unique, walk-unique, number-unique, name-unique: any two results that meet a promise are equal
pub mod Uniqueness
