-- The laws that the readers' proofs cite; each file after those that it cites.
-- items-snoc, items-fine, items-within, keys-aside: the faults of what is counted one after the other
pub mod Items
-- said-faults, Tallied, tallied-none, tallied-more: a tally, entry by entry, against the faults of the whole list
pub mod Tallied
-- said_moved, part-seen, pair-seen, rule-seen: entries as what they say
pub mod Seen
-- Progress, begun, list-stuck, list-ends, list-goes-on: the loop over the entries of a list
pub mod Gathered
-- Known, room_for, sum_more, label-seen, name-said-low: a label's number and its faults from what its parts say
pub mod Parts
-- starts-alike, starts_more, start-found: where the search for a name may begin
pub mod Starts
-- Filled, filled_none, filled_more, entry-longer, none_read: the words of a list over the start of a store
pub mod Listed
-- names-faults, pairs-faults, rules-faults, labels-faults and -words, labels-fine, labels-few, labels-too: the lists of a line against their entries
pub mod Contents
-- Bare, said-unique, list-unique: any two results that meet a promise are equal, and which words of the store are settled
pub mod Uniqueness
