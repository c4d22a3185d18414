-- What communication goes through, over lists of numbers, each the number of a label.
pub mod Following
