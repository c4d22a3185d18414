-- The laws that the proofs of this crate's functions cite; each file after those that it cites.
-- labels-stuck, labels-on, labels-taken, all-within, all-taken, order-stuck, order-passed, order-become: the form of the order's line
pub mod OrderForms
-- order-formless, order-faulty, order-came: what `take_order` gives, by the line's form and its fault
pub mod OrderLines
-- refused-walked, refused-first, names-over, line-over, order-there, order-bad, order-short, order-whole: the line as a text's only one;
-- end_kept, end-cleared, end-front: the words after it
pub mod OrderEnds
-- order-unique: any two results that meet the promise are equal
pub mod Uniqueness
