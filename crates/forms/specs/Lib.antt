-- What the answers of the readers of a term's line stand for.
pub mod Terms
pub mod Kinds
