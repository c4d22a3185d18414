-- What the sums of two rows are, over lists of numbers, each the number of a label, and what is known of those that were put in.
pub mod Sums
pub mod Seen
