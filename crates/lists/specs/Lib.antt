-- What the answers of the readers of entries and lists stand for.
-- what the entries of a list or the parts of a label say together
pub mod Tallies
-- what each kind of entry says
pub mod Entries
-- entries of two sides
pub mod Sides
-- where the search for a name may begin
pub mod Starts
-- the lists, and their words in the store
pub mod Lists
