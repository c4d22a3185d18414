-- What the calls of the rounds promise.
pub mod Alphabets
