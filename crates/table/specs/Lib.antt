-- What a table and its lists say, and which description they hold.
-- name_of, words_at, list_in, operator_of, term_of: what the words say
pub mod Decoded
-- word_of, slot_of, term_words, term_for, order_for: the words of a description
pub mod Encoded
-- names_in, bodies_in, slots_in, root_in: where what stands; Holds, HoldsOrder: what a table and its lists hold
pub mod Holding
pub mod Terms
