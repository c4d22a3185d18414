-- What a step of a writer writes.
pub mod Steps
