-- The laws that the readers' proofs cite; each file after those that it cites.
-- table-holds, order-held: what is left holds the description and its order
pub mod Holdings
-- head-joins: the lines before the terms are lines of the whole text; lines-halt, lines-crowd, lines_fit: what it comes to by those
pub mod Wholes
-- terms-refused, terms-read, head-refused, head-crowded, head_read: what a section leaves with those after it
pub mod Sequels
-- too-much-stored, rooms, kept-stored, cleared-stored: what is left in the areas, by whether the text was read
pub mod Stores
-- never-crowded, read-in-full: where there is room for every text's lists; read-holds: what is left of a text that is read
pub mod Rooms
-- stored-once: any two results that meet the promise are equal, and so are the areas
pub mod Uniqueness
