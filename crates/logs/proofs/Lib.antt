-- The laws of the log, each file after those that it cites.
-- words-all: a whole list as a part of itself; less-known, less-new: the first label of a list is known, or it is new; logging-start,
-- logging-known, logging-step, logging-full, logging-end: the loop of `log_new`
pub mod LogSteps
