-- The laws of the names of a packed label, each file after those that it cites.

-- masked: a digit masked away from a word
pub mod Masks
-- label_of-code, lower-count, upper-count, lower-cleared, upper-cleared, last-cleared, none-cleared, bag-cleared, number-less: a count as a
-- digit of one of the two words, and the label without it
pub mod Counts
-- Hidden, clear_step, Directed, Moved: the loops of `hide`, `clear`, `renaming` and `rename_word`; renamed-words: two words renamed one
-- after the other
pub mod Lists
-- clear-number, without-number, renamed-number: words do what labels do
pub mod Refinement
-- counted-unique: any two counts that meet the promise are equal
pub mod Uniqueness
