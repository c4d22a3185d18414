-- What the answers of the readers of a line's tail stand for.
pub mod Lines
pub mod Plains
pub mod Wraps
pub mod Tails
