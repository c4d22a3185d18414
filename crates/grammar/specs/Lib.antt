-- Texts: how a description is read, line by line and whole, how it is written, and how an answer is printed. With `meaning` this
-- is what has to be believed.
-- The form at the start of a text: words that stand as they are, numbers, names, lists
pub mod Text
-- The form of each line, with its LF
pub mod Forms
-- What a line of right form says, and which faults it has
pub mod Faults
-- The whole text: the lines in their fixed order, the first bad one deciding
pub mod Reading
-- Numbers and labels as they are written
pub mod Marks
-- The other way: the text of a description
pub mod Writing
-- The text of an answer or a refusal
pub mod Printed
-- What a writer of texts leaves in a lent area
pub mod Areas
-- Which texts list no more than runs show
pub mod Exact
