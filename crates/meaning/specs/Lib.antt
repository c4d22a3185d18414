-- What a description means, in the order of docs/FORMAT.md. Who has read these files knows what is promised; proofs/ shows
-- that it hangs together.
-- Texts as lists of bytes
pub mod Bytes
-- Labels as bags of counted names, their order and their numbers
pub mod Labels
-- Sets of labels as ascending lists
pub mod Sets
-- Terms, operators, orders and descriptions
pub mod Descriptions
-- Which descriptions and orders are legal
pub mod Legal
-- The sets of all terms, round by round
pub mod Rounds
-- Finite runs, and the labels on them
pub mod Runs
-- The limits that sets may pass
pub mod Limits
-- The answer of a description and an order, its refusals and its verdict
pub mod Answers
-- When one description and order widens another
pub mod Widening
-- Which descriptions list no more than their runs show
pub mod Exact
-- What the laws of the set rules speak of
pub mod Laws
-- When one description regroups another
pub mod Regrouping
