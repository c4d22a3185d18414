-- The laws that the proofs about faults cite, and the uniqueness of what is promised; each file after those that it cites.
-- asks_nothing: a call of a function without a `requires`
pub mod Calls
-- worse-fine, worse-none, unless-none, worse-first, worse-second, worse-assoc, not-below, first-fails, second-fails: faults joined
pub mod Ranks
-- found-unique, counted-unique: any two results that meet a promise are equal
pub mod Uniqueness
