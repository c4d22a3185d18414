-- What the rules of comm mean, over lists of numbers, each the number of a label.
pub mod Rules
