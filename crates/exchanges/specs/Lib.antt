-- What the functions of communication ask of a set and promise of it.
pub mod Following
pub mod Closing
