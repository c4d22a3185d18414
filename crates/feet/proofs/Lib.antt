-- The laws of the lines after the terms; each file after those that it cites.
-- below-test, body-line: the tests of a body and of the root
pub mod BodyTests
-- BodiesSoFar, bodies-start, bodies-step, bodies-halt, bodies-end: the bodies so far
pub mod BodyLines
-- foot-bodies-bad, foot-root-bad, foot-end: the bodies, and the root after them
pub mod FootLines
-- foot-refused, end_read: what all lines come to, as the last of the whole text
pub mod EndLines
-- end-once: any two answers that meet the promise are equal, and so are the areas where no line is bad
pub mod Uniqueness
