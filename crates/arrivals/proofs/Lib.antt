-- The laws of what is new in the set of a term.
-- sums-all, sums-large, sums-last: every sum with a new label; two-large, two-last: the new labels of two sets, and then the sums
pub mod NewSums
-- none-given, leaf-given, copy-given, joint-given, either-given, both-given, block-given, ..: on the numbers of labels it is what the
-- labels give, or that passes a limit
pub mod Giving
-- Known: what stands where at a term; Given, arriving-adds: what is given for it makes this round's set of that of the round before;
-- given-words, given-over: what a function that builds it leaves; quiet-nothing: a quiet term has nothing new
pub mod Arrivals
