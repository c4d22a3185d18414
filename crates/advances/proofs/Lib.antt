-- Laws of a term in a round, each file after those that it cites.
-- logged-fits, appended-all, appended-large: the promise of `append_new`
pub mod Appending
-- grows-nothing: a set in which nothing is new; words-laid: what is laid in the log; midway-next: one term more is done
pub mod Midways
-- midway-quiet: a term in whose set nothing is new; taken-nothing: the promise of `take_in`; new-large, new-kept: that of `keep_new`;
-- kept_self, kept_trans: areas that keep their lengths
pub mod Keepings
-- advanced-quiet, advanced-large, advanced-kept: the promise of `advance`
pub mod Advancing
