-- What reading leaves in a table, its lists and the order's words.
-- Coming, read_in; Stored: what is promised for every text
pub mod Stored
-- what the functions that join the sections ask for and leave
pub mod Whole
