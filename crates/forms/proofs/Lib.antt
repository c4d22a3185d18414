-- The laws that the readers' proofs cite, and the uniqueness of what is promised; each file after those that it cites.
-- kind-word, kind-rest, kind-decides: the words of the kinds, of which none begins with another
pub mod KindWords
-- Sought, sought-none, sought-more, sought-found, letters-found, line-there: the kinds one after the other, and the tail of the one found
pub mod Kinded
-- line_taken: a term line with its faults, as a term's answer
pub mod Taken
-- term-unique: what is settled of any two results that meet a promise
pub mod Uniqueness
