-- The laws of parts kept in a row of numbers, and of rows of labels.
-- part-set, part-other, part-past, length-with_part, with_part-past: a row after a part was entered; words-length, words-none,
-- words-empty, words-grown, words-cut: what stands in a part
pub mod Rows
-- enter-start: a label put into a set at the start of words of its own; RowWalk, row-start, row-length, row-holds, row-large, row-end: a
-- loop over a row of labels into a set in other words
pub mod RowWalks
