-- What the functions on the names of a label mean.
pub mod Names
