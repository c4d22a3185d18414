-- The shapes of terms: what their sets are built of.
-- shape_for: the shape of a term
pub mod Shaping
