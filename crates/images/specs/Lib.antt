-- What the ways mean, over lists of numbers, each the number of a label.
-- allowed_in: what a list of labels lets pass
pub mod Allowing
-- offer_of, offered, imaged: what a way makes of a label, and what goes into a set of it
pub mod Imaging
