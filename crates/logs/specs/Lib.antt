-- What is written to the log.
-- less_of: the labels that are new; space_for, Logs: as many as there is room for
pub mod Logs
