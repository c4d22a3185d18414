-- The laws of the sums of two rows.
-- steady-sum_in, steady-row_of, steady-sums_of: no step shortens a set or takes it past the room; sums-outcome: on the numbers of labels
-- they are the product, or pass a limit
pub mod SumLaws
-- kept-nowhere, kept-none: tables that keep nothing; passed_over, grown-stops, now-kept: a label that is kept, one that finds no
-- room, and one that is put in without and with a slot; table-start, table-holds, table-large, table-end: a loop over a row with a table
pub mod SeenLaws
-- sums-lent: rows that are lent from their first word on
pub mod LentRows
