-- Laws of a round.
-- AllTerms, handed-length, handed-term, handed-part: what is handed on to the refs; NoneNew, some-new: whether there is anything;
-- handing-start, handing-some, handing-none, handing-end: the loop of `hand_on`
pub mod Handing
-- coursing-start, coursing-step, coursing-large, coursing-end: the loop of `course`
pub mod Coursing
