-- The computed cases, then the laws that the writers' proofs cite, each file after those that it cites.
-- packed-listing: the listing of README.md, printed over packed names and labels
pub mod Cases
-- length-head: how long a head can be
pub mod Heads
-- lines_step, lines_end, length-lines, lines-short: the first of the labels' lines to come, and those behind it
pub mod LabelLines
-- answer-joined, length-joined, answer-fits: an answer is its head and its labels' lines
pub mod Answers
-- same_answer: for callers, what is printed over packed words is what is printed over a description's own
pub mod Callers
-- refusal-joined, length-refusal: a refusal is its head and its column's line, and how long it can be
pub mod Refusals
-- length-answer, some-within, printed-within: how long an answer can be, for callers too
pub mod Lengths
