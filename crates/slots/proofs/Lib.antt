-- The laws of packed terms.

-- word_term-small: what comes out of the word of a kind and its numbers
pub mod PackedKinds
