-- The laws of sets in words, each file after those that it cites.
-- halving-start, halving-up, halving-down, halving-end: the loop of `place`; placed_end: a place that is the end; place-splits: what
-- stands before the place of a label and after it; rising-first: the first label of an ascending list
pub mod Search
-- set-moved, pushed-laid: a set opened for a label
pub mod Openings
-- entered-present, entered-full, entered-added: the three answers of `insert`
pub mod Insertion
-- length-put_in, inserted-room; handed_on: what a `?` hands on; steady-..: no step shortens a set or takes it past the room;
-- going-..: what is built and what is to come are the goal; first-large, first_holds: the first of two steps; followed-..: what
-- follows an insertion; next-holds, next-large, built-holds, built-large; each_append: the labels of two lists one after the other
pub mod Steps
-- part_stays: a part stays while a set behind it is built; walk_start, walk-holds, walk-large, walk_end: a loop over a part;
-- walked-part: its promise
pub mod Walks
-- compare-lt, compare-gt, compare-eq; and-true; insert-present, insert-absent, rising-enter: insertion in an ascending list is the
-- insertion in order; rising-insert
pub mod Ascent
-- in_insert, in-present: what is in an ascending list; entered-there, entered-rising, entered-keeps, entered-has: labels put in one
-- after the other; rises→, climbing-..: the test of `ascends`, and its loop
pub mod Presence
-- insert-number, insert-ascending, numbers-rising, each-outcome, enter-outcome: what is built of numbers is what `meaning` makes of
-- the labels; ascending-same, too-much-more: lists with the same members
pub mod Refinement
-- taken-outcome, summed-outcome: the same of a label that is offered, and of a sum
pub mod Outcomes
-- placed-unique, entered-unique, grown-unique: any two results are equal, and the labels that they leave
pub mod Uniqueness
