-- What the order's line gives, as the last of its text.
pub mod Orders
