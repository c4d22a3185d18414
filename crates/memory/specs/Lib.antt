-- What the memory of states means, over lists of numbers, each the number of a label.
pub mod Memory
