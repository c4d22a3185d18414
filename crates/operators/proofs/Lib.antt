-- The laws of operators' lists.
-- Over, over-few, over-start, over-step, over-end: rules taken three words at a time; first-few, lent-rules: the labels that are lent of
-- them
pub mod Exchanged
-- way_of, way_words: the way of an operator of a description, and its list as the way takes it; way_same, words_same: they are those that
-- the lists of a legal description give
pub mod OperatorLists
