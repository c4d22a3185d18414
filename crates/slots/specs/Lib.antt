-- Which word stands for a term, and which term for a word.
pub mod Packing
