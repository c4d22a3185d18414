-- The laws of the order of rules, each file after those that it cites.
-- length-first, rules-at, rules-before, rules-placed: the rules that a list of labels holds, by their places
pub mod FirstRules
-- Shared, Weighed: the loops over rules and over names; sharing-most, lightest-most: counts and keys are small
pub mod Weighing
-- long-here, long-later, long-nowhere: whether a label is long; many-of, few-rules: with the number of rules
pub mod LongLabels
-- placed-before, placed-after: one entry; sorted-in, in-sorted, length-sorted: the same entries; sorted-map: of what is made of each
pub mod Sorting
-- Placing, placing-here, placing-step, placing-last: the loop that puts a card in
pub mod CardPlaces
-- Dealt: the loop that deals the cards
pub mod CardOrder
-- Written: the loop that writes the rules in order
pub mod WrittenRules
-- ordered-members: the rules of a list in order are those of the list; taken-for: the first labels of `list_for` are `rules_for`; order_for,
-- rules-for-read, order-in, in_order_lem: the rules of a description
pub mod SameRules
-- gives-for, outcome-for, there-for, back-for, listed-for: communication with the rules as they are followed
pub mod FollowedRules
-- some orders, computed
pub mod Examples
