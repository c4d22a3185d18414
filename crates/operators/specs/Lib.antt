-- The ways of operators, and the rules of comm as they are followed.
-- exchange_labels, exchange_list: rules as pairs of labels
pub mod Exchanging
-- rule_list, way_for, place_for, words_for: an operator's way and its list; Passes: what goes into a set on a way
pub mod Operators
