-- What the answers of the readers at the bottom of a line stand for.
pub mod Steps
-- the number of a name, looked for from a place on
pub mod Searches
