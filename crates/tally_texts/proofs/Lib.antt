-- The computed cases, then the laws that the writers' proofs cite, each file after those that it cites.
-- none-counted, many-counted: the texts of two tallies
pub mod TextCases
-- taken_back, behind-start, behind-room, behind-step, behind-last: a text behind the first bytes of an area, which stay
pub mod Behind
-- sum-size, reason-joined, next-reason, no-numbers, no-figures: the refusals' figures and lines one by one
pub mod Reasons
-- length-tally, fits-is_some, some-within, printed-within: for callers, how long a text can be
pub mod Lengths
