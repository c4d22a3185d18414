-- What the functions on lent areas mean: words set to 0, labels in a row, pairs of names in a word.
pub mod Areas
pub mod Rows
pub mod Pairs
