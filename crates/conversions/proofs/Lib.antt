-- The laws of the conversions.
-- widened-get, lowers-get: what stands where; Looked, look-found, look-on, look-end: a look at the upper words
pub mod Places
-- made, refused, narrow_short, narrow-looked: what is answered
pub mod Answers
-- narrow-widened, widened-narrow: there and back; widened-labels, few-names-fit, few-names-widened: what is widened is what a label of at
-- most 12 names has in two words
pub mod RoundTrips
-- converted-unique, outcome-unique: a conversion settles its answer and every word
pub mod Uniqueness
