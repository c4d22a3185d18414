-- What round after round says of its areas.
-- LastMade: round after round; Passing: a limit that is passed
pub mod Stages
-- Ready, Ran: the rounds of a table in lent areas
pub mod Running
-- Reached: what the rounds of a table come to in areas that are always enough
pub mod Endings
-- what is left of the last round
pub mod Settling
