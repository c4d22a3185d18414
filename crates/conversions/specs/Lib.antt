-- What the conversions of label numbers mean.
pub mod Conversions
