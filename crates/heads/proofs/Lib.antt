-- The laws of the lines before the terms; each file after those that it cites.
-- names-test, equations-test, terms-test: the tests of the counts
pub mod Counts
-- NamesSoFar, names-start, names-step, names-halt, names-end: the names so far
pub mod NameLines
-- terms-bad, counts_end, head-bad, head-names-bad, head-counts-bad, head-end: the lines before the terms
pub mod HeadLines
-- head-once: any two answers that meet the promise are equal, and so are the tables where no line is bad
pub mod Uniqueness
