-- Laws of the table and its lists.

-- take-drop-past, take_drop_all: parts of a list that reach past its end
pub mod Parts
-- shift-pow: a number shifted up in a word
pub mod Shifts
-- length-filled, filled_more, filled_next, filled-front, zeroed-filled: what is filled up to a length
pub mod Fillings
-- term-back: a term of a legal description comes back from its word; rising-few, rising-pairs: ascending numbers are few
pub mod PackedTerms
-- names-held, bodies-held, slots-held, slot-of, term_of_lem, body_of: what stands where in a table that holds a description
pub mod Holdings
-- decoded: a table and lists that hold a legal description stand for it; list-stored, length-rule_words: a term's list
pub mod TableTerms
