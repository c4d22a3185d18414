-- The laws of the ways.
-- steady-offered: no step shortens a set or takes it past the room; taken-..: what is offered goes into a set;
-- imaged-lent: rows that are lent whole; others: the ways without a map and without rules
pub mod Images
-- way-outcome, copy-offers, block-offers, hide-offers, rename-offers, allow-offers: on the numbers of labels each way is its
-- operator; listed-packs, allowed-number: the test of a list of labels
pub mod Refinement
