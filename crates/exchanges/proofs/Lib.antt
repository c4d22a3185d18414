-- The laws of communication, each file after those that it cites.
-- steady-entered, steady-closed: no step shortens a set or takes it past the room;
-- alone-walking, fresh-walking: the start; walked_none,
-- walked_one, walked_then, walked-stops: no label, one, more after some, no more; walked_on, walked-length, walked-set: what is so after them
pub mod Walking
-- step-whole: where a rule leads; put-..: a state that is known, its label, and what comes of it; following-..: the loop over the rules
pub mod RuleByRule
-- closing-..: the loop over the labels of a row; closes-reached: a set as far as it lies in the words
pub mod LabelByLabel
