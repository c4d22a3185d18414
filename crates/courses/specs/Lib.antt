-- One round.
-- Coursed: all terms; hand_on, some_new, HandedOn: what is new for the refs of the next round
pub mod Courses
