-- What the functions on parts mean: definitions over lists of numbers, each the number of a label.
pub mod Parts
