-- What the functions on sets of packed labels mean: definitions over lists of numbers, each the number of a label.
pub mod Inserting
pub mod Building
pub mod Ascending
