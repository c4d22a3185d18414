-- Laws of syncs of whole processes.
-- is-kind, no_kind, stays: the kinds of terms by their tags
pub mod ByKind
-- merged-legal, merged-join, merged-rounds, merged-answer, merged-lists: a description in which they are merges
pub mod MergedSets
-- merged-slots: the slots of one, gone through, are those of the other
pub mod MergedSlots
