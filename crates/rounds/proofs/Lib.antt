-- Laws of the order's cut, by numbers as by labels, and of the calls.
-- cut-number: the cut of labels' numbers
pub mod Answering
-- cuts-to: the outcome under an order is the outcome under `all`, cut
pub mod Orders
-- answered-short, -large, -listed: the promise of `alphabet`; answered-unique: it settles all; answered-rounds: its round count;
-- few-large, few-listed: the promise of `alphabet_of_few`; own-short, own-large, own-listed: that of `alphabet_in_own`
pub mod Listings
