-- The laws of what is new in a round, each file after those that it cites.
-- in-less, less-or-known, less-ascends: the labels of a list that another does not have; ascending-itself; Adds, adds_same, adds-less:
-- labels that make a newer list of an older one; less-length: how many the two lists have
pub mod Differences
-- rising-number; less-number: the same on the numbers of labels, found by search; less-joined, less-rising, known-rising, less-apart:
-- with the older list they are the newer one
pub mod Numbers
-- in-arrived, arrived-or-before, arrived-ascends, arrived-length, all_new, adds-arrived: what is new in a round; arrived-joined,
-- arrived-rising, before-rising, arrived-apart: on the numbers of labels
pub mod News
-- labels-total, round-labels: the labels of all sets; mixed-new, mixed-old, mixed-none, mixed-all, mixed-other, mixed-next, labels-advanced,
-- labels-start, labels-end, labels-bound: the same while a round is worked out
pub mod Counting
-- none-arrived, stays-none: a set in which nothing is new stays; quiet-stable, stable-quiet: so does a round
pub mod Staying
-- over-in; long-passes, large-passes, total-passes, within-passes: what passes a limit; few-labels, few-together, few-packs, round-packs:
-- what passes none; over-more, over-next, few-before: sets that grow
pub mod Passing
-- AddsTo, none-added, arrived-logged, now-packs: labels that make this round's set of that of the round before; Mixing, mixing-both,
-- mixing-all, mixing-same, MixingNew, mixing-new, mixing-first: the sums that are enough; leaf-adds, reference-adds, one-adds,
-- either-adds, both-adds, joint-adds, through-adds, through-new: what is new in a set, by the shape of its term; Quiet, quiet-arrived:
-- nothing is, where nothing is in what it is made of
pub mod Making
