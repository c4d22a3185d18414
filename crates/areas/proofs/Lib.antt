-- The laws of lent areas of words.

-- length-zeroed, zeroed-front, zeroed-reached: words set to 0
pub mod Zeroes
-- length-held, held_none, held-take, held-drop, held-zeros, held-append, held-in_words, length-in_words, held-long, held-get, held-set:
-- words and the labels that they hold
pub mod Held
-- lent, back, lent_is, back_is: words that are lent from the first on
pub mod Lent
-- put_step, Filling, filling-start, filling_step, filling-two, filling-end: words put at the start of an area one after the other;
-- FillingLabels, labels-start, labels-step, labels-end: labels put there, two words each
pub mod Filling
-- copied_up: words that are copied two places up; moved_up-within, moved_up-past, moved_up-none, held_moved, set_before: the labels that they
-- hold, which move one place up
pub mod Moves
-- label_numbers, pair_words, rule_labels; pairs_in-pair_words: how the lists of operators stand in words
pub mod Entries
-- held-unique: the labels that a row holds are settled
pub mod Uniqueness
