-- Where rows of labels stand in lent words.
-- part_at, with_part: a row of numbers that keeps it; words_in: what stands there; at_start: a set at the start of words of its own
pub mod Extents
