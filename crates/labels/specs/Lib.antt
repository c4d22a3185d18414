-- What the functions on packed labels mean. A label itself is a list of counts, as the crate `meaning` says.
pub mod Packing
pub mod Bags
