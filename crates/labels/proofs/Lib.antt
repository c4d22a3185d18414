-- The laws of packed labels, each file after those that it cites.

-- number-bag, pow-mul, number-several, label_of-words, inside-as-much, as-much-words, compared-step, as-much-counts, shifted-word: numbers,
-- their digits to base 32 and those of two words one above the other, and a shift as a factor
pub mod Words
-- size-words, size_few, number-zero, folded-few: the size of a number's bag by a division
pub mod Sizes
-- Packs, bag-number, size_number, sum_number, inside-number, difference-number, single-number: numbers do what labels do
pub mod Refinement
-- code-packed, code_of, words-packed, packed-code, ltb-alike, eqb-alike, as-much-codes, inside-codes: packing and reading again, and what
-- the words of labels say of their numbers
pub mod Codes
-- lent, borrowed, lends_nothing, larger-outside: whether a word lies inside another, by what their difference borrows
pub mod Borrows
