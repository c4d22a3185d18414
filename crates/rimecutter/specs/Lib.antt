-- What a call comes to from its bytes and the lengths of its areas
pub mod Calls
-- What the answer of a call says, and what a call leaves
pub mod Answers
-- Which refusal is due, told from the input alone
pub mod Refusals
-- What the three demands say of a call
pub mod Demands
-- What is said of exact lists beside them
pub mod Exact
