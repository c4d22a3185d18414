-- The theorem about what is counted.
-- counted-given: no verdict of a call is one that no call gives
pub mod Given
