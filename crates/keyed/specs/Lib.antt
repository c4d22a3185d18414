-- How far reading has come in a text, and what its lines give that hold one thing after their key.
pub mod Ends
pub mod Walks
pub mod Numbers
