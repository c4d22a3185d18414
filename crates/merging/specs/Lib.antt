-- What the union means, over lists of numbers, each the number of a label.
-- ascent: a list as far as it ascends; rest_of, leads, behind, drawn: two parts side by side, the lowest label first
pub mod Walking
-- joined, in_one, cut_to: the union of two lists, as much of it as there is room for
pub mod Joining
