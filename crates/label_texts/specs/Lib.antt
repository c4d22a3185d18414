-- The words that names and labels are packed in, and what a step of a writer writes.
pub mod Packed
pub mod Steps
