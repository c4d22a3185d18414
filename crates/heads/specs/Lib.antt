-- What the lines before the terms say, and what they leave in a table.
-- Heading, head_text; NamesRead, CountsRead, HeadRead: the lines before the terms; HeadGiven: what is promised for a table of any length
pub mod Heads
