-- What is new in the set of a term.
-- arriving, Arrives: what the new labels of its operands give
pub mod Arriving
-- quiet: whether nothing can be new
pub mod Looking
