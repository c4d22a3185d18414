-- Syncs of whole processes, which have the sets of merges.
-- multi_at, merge_in, merged_to: slots in which they are merges
pub mod Merging
-- with_merges, SyncsJoin: descriptions in which they are merges
pub mod Merges
