-- The laws that the proofs of the readers cite, and the uniqueness of what is promised; each file after those that it cites.
-- rest-cons, literal-other, literal-more, Spelling, number-none, zero-read, one-read, two-read: the text from a place on, byte by byte
pub mod Rests
-- word_none, word-other, Worded, name_back, take_snoc: a name, read and packed
pub mod WordReading
-- stops, goes, as_told, shifted, steps-to, steps-stuck, moved, went_on, stays_on, back-past: steps one after the other, and of the rest of a line
pub mod Steps
-- word-name, number-here, number-later, rest-literal, packed-split: names looked up by their words
pub mod Looked
-- several-few, labels-several: how many entries a list can have
pub mod Several
-- steps-unique, count-unique, name-unique, passes-unique: any two results that meet a promise are equal
pub mod Uniqueness
